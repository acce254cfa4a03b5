use Rattle.std.proofs.Common.{refl, sym, subst, [], arith}
use Rattle.std.proofs.lemmas.List.{take_all}
use Rattle.ch_plan.specs.declared.plan.Limit.{Limit}
use Rattle.ch_eval.specs.Made.{AreLimits, IsLimit}
use Rattle.ch_eval.proofs.Pairing.{pairs_more}
use Rattle.ch_eval.proofs.make.limits_of.Goals as goal

pub loop-bound-init : goal.loop-bound-init
loop-bound-init c = subst (AreLimits []) (sym c.in_ok-limits.ensures) tt

pub loop-bound-preserved : goal.loop-bound-preserved
loop-bound-preserved c =
    let made : Limit = record { sum = c.in_ok-sum.sum; divisor = c.bound-item.result.divisor } in
    let is : IsLimit c.bound-item.result made = record { sum = c.in_ok-sum.ensures; divisor = refl } in
    pairs_more IsLimit c.args.bounds.now c.loop-bound.bound-index c.bound-item.result c.loop-bound.limits c.push.new.self made c.loop-bound-test.true c.bound-item.is is c.in_ok-push.ensures.ok c.loop-bound.invariant

pub returns : goal.returns
returns c = subst (λ bs. AreLimits bs c.loop-bound.limits) (take_all c.loop-bound.bound-index c.args.bounds.now (omega arith)) c.loop-bound.invariant
