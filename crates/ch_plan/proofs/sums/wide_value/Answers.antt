use Rattle.std.proofs.Common.{rules, SFits, refl, to_z, ◌*ℤ◌}
use Rattle.std.specs.Int.{w128}
use Rattle.std.proofs.lemmas.Int.{to_z-of_z}
use Rattle.ch_plan.proofs.Weighing.{summed_on}
use Rattle.ch_plan.specs.Planned.{at}
use Rattle.ch_plan.proofs.sums.wide_value.Goals as goal

pub loop-k-preserved : goal.loop-k-preserved
loop-k-preserved c =
    let n : SFits w128 c.wide_added-total.result = search rules in
    let next = c.wide_added-total.ensures in
    simp to_z-of_z (summed_on w128 (λ t. t.coef *ℤ at c.args.point.now t.level) c.as_slice-terms.result.now c.loop-k.k _ (to_z w128 c.loop-k.total-bits) c.wide_added-total.result _ c.loop-k-test.true next c.loop-k.invariant)
