use Rattle.std.proofs.Common.{arith, vec_capacity, rules}
use Rattle.ch_rank.proofs.Starting.{no_trials}
use Rattle.ch_rank.proofs.trials.Trials.start.Goals as goal

pub invariant_of-result : goal.invariant_of-result
invariant_of-result c =
    no_trials c.args.grid.now.params c.in_ok-sizes_of.field-0.items c.in_ok-with_capacity.field-0.items c.in_ok-vec.field-0.items c.points-points.result (vec_capacity c.in_ok-with_capacity.field-0)
    c.args.grid.now.within c.in_ok-sizes_of.ensures c.in_ok-with_capacity.ensures.items (c.in_ok-vec.ensures.items_if_clones_equal (λ y h. search rules)) c.points-points.ensures.value c.points-points.ensures.few (omega (arith, c.in_ok-with_capacity.ensures.exact))
