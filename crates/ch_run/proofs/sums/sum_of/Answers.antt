use Rattle.std.proofs.Common.{rules, SFits, w64, pos, get_or, to_z}
use Rattle.std.proofs.lemmas.Int.{to_z-of_z}
use Rattle.ch_run.proofs.Weighted.{sum_on}
use Rattle.ch_run.proofs.sums.sum_of.Goals as goal

pub loop-place-preserved : goal.loop-place-preserved
loop-place-preserved c =
    let f : SFits w64 c.with_element-sum.result = search rules in
    let a : SFits w64 (get_or c.args.cells.now c.loop-place.place (pos 0)) = search rules in
    let next = simp to_z-of_z at c.with_element-sum.ensures in
    simp to_z-of_z (sum_on c.args.cells.now c.loop-place.place (to_z w64 c.loop-place.sum-bits) c.with_element-sum.result _ c.loop-place-test.true next c.loop-place.invariant)
