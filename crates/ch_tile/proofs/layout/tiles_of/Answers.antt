use Rattle.std.proofs.Common.{ap, ◌∙◌, rules, SFits, w64, arith}
use Rattle.std.specs.Int.{int_div_euclid}
use Rattle.std.proofs.lemmas.Int.{ints, to_z-of_z}
use Rattle.ch_tile.proofs.Steps.{box_made}
use Rattle.ch_tile.proofs.layout.tiles_of.Goals as goal

pub returns-clause-range : goal.returns-clause-range
returns-clause-range c =
    let r = c.args.range in
    let a = c.requires.range.low in
    let b = c.requires.range.high in
    let low : SFits w64 r.low = omega (arith, ints, a) in
    let high : SFits w64 r.high = omega (arith, ints, b) in
    let size : SFits w64 c.from-size.result = search rules in
    let least : SFits w64 c.div_euclid.result = search rules in
    let most : SFits w64 c.div_euclid-2.result = search rules in
    simp to_z-of_z (box_made c.args.size r c.div_euclid.result c.div_euclid-2.result c.requires.some c.requires.range (simp to_z-of_z at c.div_euclid.ensures ∙ ap (int_div_euclid r.low) c.from-size.ensures)
    (simp to_z-of_z at c.div_euclid-2.ensures ∙ ap (int_div_euclid r.high) c.from-size.ensures))
