use Rattle.std.proofs.Common.{rules, SFits, refl, to_z, ◌*ℤ◌}
use Rattle.std.specs.Int.{w128}
use Rattle.std.proofs.lemmas.Int.{to_z-of_z}
use Rattle.ch_plan.proofs.Weighing.{summed_at}
use Rattle.ch_plan.specs.Planned.{sum_value}
use Rattle.ch_plan.proofs.sums.mixed.Goals as goal

pub loop-k-preserved : goal.loop-k-preserved
loop-k-preserved c =
    let n : SFits w128 c.weight_added-total.result = search rules in
    let next = c.weight_added-total.ensures in
    simp to_z-of_z (summed_at w128 (λ w. w.coef *ℤ sum_value w.sum c.args.point.now) c.args.weights.now c.loop-k.k c.index-weights-k.result (to_z w128 c.loop-k.total-bits) c.weight_added-total.result _ c.loop-k-test.true c.index-weights-k.is next c.loop-k.invariant)
