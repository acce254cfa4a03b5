use Rattle.std.proofs.Common.{rules, arith, SFits, w64}
use Rattle.std.proofs.lemmas.Int.{to_z-of_z, to_z_pos}
use Rattle.ch_nest.proofs.StartCells.{wrapped_once}
use Rattle.ch_nest.proofs.fills.element.Goals as goal

pub returns : goal.returns
returns c =
    let whole : SFits w64 c.plus.result = search rules in
    let product : SFits w64 c.times.result = search rules in
    let a : SFits w64 c.args.fill.a = search rules in
    let b : SFits w64 c.args.fill.b = search rules in
    let few = to_z_pos w64 c.args.q (omega (arith, c.requires)) in
    let x = simp to_z-of_z at c.times.ensures in
    let s = simp to_z-of_z at c.plus.ensures in
    simp to_z-of_z (wrapped_once c.args.fill c.args.q c.times.result c.plus.result (rw few at x) s)
