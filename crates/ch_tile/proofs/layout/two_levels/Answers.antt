use Rattle.std.proofs.Common.{subst, sym, SFits, w64}
use Rattle.std.proofs.lemmas.Int.{to_z-of_z}
use Rattle.ch_affine.specs.Affine.{IsSmall}
use Rattle.ch_tile.proofs.Steps.{two_made, two_small}
use Rattle.ch_tile.proofs.layout.two_levels.Goals as goal

pub invariant_of-result : goal.invariant_of-result
invariant_of-result c =
    let a : SFits w64 c.args.new = c.ranges.new in
    let b : SFits w64 c.args.tiled = c.ranges.tiled in
    let k : SFits w64 c.args.constant = c.ranges.constant in
    let made =
    two_made c.args.levels c.args.outer c.args.level c.args.new c.args.tiled c.args.constant _ _ _ _ _ _ c.in_ok-coefs.ensures c.in_ok-push_zeros.ensures (simp to_z-of_z at c.in_ok-push.ensures.ok)
    c.in_ok-push_zeros-2.ensures (simp to_z-of_z at c.in_ok-push-2.ensures.ok) c.in_ok-push_zeros-3.ensures in
    simp to_z-of_z (subst IsSmall (sym made) (two_small c.args.levels c.args.outer c.args.level c.args.new c.args.tiled c.args.constant c.requires.few c.requires.outer c.requires.level c.requires.new c.requires.tiled c.requires.constant))

pub returns : goal.returns
returns c =
    let a : SFits w64 c.args.new = c.ranges.new in
    let b : SFits w64 c.args.tiled = c.ranges.tiled in
    let k : SFits w64 c.args.constant = c.ranges.constant in
    let made =
    two_made c.args.levels c.args.outer c.args.level c.args.new c.args.tiled c.args.constant _ _ _ _ _ _ c.in_ok-coefs.ensures c.in_ok-push_zeros.ensures (simp to_z-of_z at c.in_ok-push.ensures.ok)
    c.in_ok-push_zeros-2.ensures (simp to_z-of_z at c.in_ok-push-2.ensures.ok) c.in_ok-push_zeros-3.ensures in
    simp to_z-of_z made
