use Rattle.std.proofs.Common.{◌∙◌, ap, subst, refl}
use Rattle.std.proofs.lemmas.Bool.{both_ways}
use Rattle.ch_order.specs.Legal.{AreAmong}
use Rattle.ch_order.specs.Walk.{rest}
use Rattle.ch_timed.specs.Timed.{step}
use Rattle.ch_order.proofs.Loops.{among_more, among_none, untrue}
use Rattle.ch_order.proofs.Walks.{rest_start, found_is, found_in, ended}
use Rattle.ch_order.proofs.meaning.has_steps.Goals as goal

pub loop-at-init : goal.loop-at-init
loop-at-init g c = λ h.
    subst (λ l. AreAmong l (g.B.Timed.list c.args.into.now)) (ap (λ v. rest v (g.A.Timed.list c.args.from.now)) c.new-at.ensures ∙ rest_start (g.A.Timed.list c.args.from.now) c.requires.from) h

pub returns-then-not-branch : goal.returns-then-not-branch
returns-then-not-branch g c =
    let here = found_is c.in_ok-found.field-0 c.as_slice.result.now c.loop-at.at (g.A.Timed.list c.args.from.now) c.in-Some.found c.in_ok-found.ensures c.in-Some.is c.as_slice.ensures in
    (λ t. absurd (untrue t), λ all. absurd (both_ways _ c.if-not-branch.true (c.in_ok-has_step.ensures.1 (all (step c.in-Some.found) (found_in c.loop-at.at (g.A.Timed.list c.args.from.now) c.in-Some.found here)))))

pub loop-at-preserved : goal.loop-at-preserved
loop-at-preserved g c = λ h.
    let here = found_is c.in_ok-found.field-0 c.as_slice.result.now c.loop-at.at (g.A.Timed.list c.args.from.now) c.in-Some.found c.in_ok-found.ensures c.in-Some.is c.as_slice.ensures in
    let left = subst (λ v. AreAmong (rest v (g.A.Timed.list c.args.from.now)) (g.B.Timed.list c.args.into.now)) c.into_vector-at.ensures h in
    c.loop-at.invariant (among_more (rest c.loop-at.at (g.A.Timed.list c.args.from.now)) (rest c.in-Some.found.vector (g.A.Timed.list c.args.from.now)) (g.B.Timed.list c.args.into.now) c.in-Some.found here
    (c.in_ok-has_step.ensures.0 c.if-not-branch.false) left)

pub returns : goal.returns
returns g c =
    let none = ended c.in_ok-found.field-0 c.as_slice.result.now c.loop-at.at (g.A.Timed.list c.args.from.now) c.in_ok-found.ensures c.in_default.is c.as_slice.ensures in
    (λ t. c.loop-at.invariant (among_none (rest c.loop-at.at (g.A.Timed.list c.args.from.now)) (g.B.Timed.list c.args.into.now) none), λ a. refl)
