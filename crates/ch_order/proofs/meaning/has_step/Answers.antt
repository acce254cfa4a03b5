use Rattle.std.proofs.Common.{◌∙◌, sym, ap, subst, refl}
use Rattle.ch_order.specs.Legal.{steps}
use Rattle.ch_order.specs.Walk.{rest}
use Rattle.ch_timed.specs.Members.{In}
use Rattle.ch_timed.specs.Timed.{step}
use Rattle.ch_order.proofs.Walks.{rest_start, found_is, found_in, ended}
use Rattle.ch_order.proofs.meaning.has_step.Goals as goal

pub loop-at-init : goal.loop-at-init
loop-at-init g c = λ i. subst (λ l. In (step c.args.element.now) (steps l)) (sym (ap (λ v. rest v (g.T.Timed.list c.args.list.now)) c.new-at.ensures ∙ rest_start (g.T.Timed.list c.args.list.now) c.requires)) i

pub returns-then-same_step : goal.returns-then-same_step
returns-then-same_step g c =
    let here = found_is c.in_ok-found.field-0 c.as_slice.result.now c.loop-at.at (g.T.Timed.list c.args.list.now) c.in-Some.found c.in_ok-found.ensures c.in-Some.is c.as_slice.ensures in
    let same = c.same_step.ensures.0 c.if-same_step.true in
    (λ t. subst (λ s. In s (steps (g.T.Timed.list c.args.list.now))) same (found_in c.loop-at.at (g.T.Timed.list c.args.list.now) c.in-Some.found here), λ i. refl)

pub returns : goal.returns
returns g c =
    let none = ended c.in_ok-found.field-0 c.as_slice.result.now c.loop-at.at (g.T.Timed.list c.args.list.now) c.in_ok-found.ensures c.in_default.is c.as_slice.ensures in
    (λ h. cc, λ i. absurd (subst (λ l. In (step c.args.element.now) (steps l)) none (c.loop-at.invariant i)))
