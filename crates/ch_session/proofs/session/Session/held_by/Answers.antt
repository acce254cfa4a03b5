use Rattle.std.proofs.Common.{◌≡◌, ◌+◌, ◌-◌, ◌≤◌, ◌<◌, Bool, true, false, set, List, [], ◌∷◌, ◌++◌, length, length-append, arith, ap, sym, ◌∙◌, subst, refl, vec_capacity}
use Rattle.std.specs.Arc.{arc_value}
use Rattle.ch_session.specs.declared.event.Event.{Event}
use Rattle.ch_session.specs.declared.event.Event.TheVariants.{Claim, Good, Refused}
use Rattle.ch_session.specs.declared.cell.Cell.{Cell}
use Rattle.ch_session.specs.declared.cell.Cell.TheVariants.{Claimed, Built, Done}
use Rattle.ch_session.specs.History.{is_held_by, is_free, holds, trials}
use Rattle.ch_session.specs.Replies.{Past, trial_made}
use Rattle.ch_session.specs.Kept.{past_of, IsSession}
use Rattle.ch_session.proofs.Keeping.{trials_now}
use Rattle.ch_session.proofs.KeptLeases.{before_waiting, lease_in, lease_out, before_more, found_at, found_none}
use Rattle.ch_session.proofs.session.Session.held_by.Goals as goal

pub overflow_cast-result : goal.overflow_cast-result
overflow_cast-result g c =
    let i = c.self.inside in
    let p : Past = past_of i.subject i.nest.value i.recipe.value i.search i.events.items in
    let t = trials_now (g.V.Made.made) p i.search i.cells.items i.owed i.counted (arc_value i.current) (vec_capacity i.events) c.trials-trial.result c.self.invariant c.trials-trial.ensures.value in
    omega (arith, t, c.self.invariant.claimed, c.trials-trial.ensures.few, c.trials-trial.ensures.small, c.loop-trial-test.true, c.len-trial-end.ensures)

pub loop-trial-init : goal.loop-trial-init
loop-trial-init g c =
    let i = c.self.inside in
    let p : Past = past_of i.subject i.nest.value i.recipe.value i.search i.events.items in
    λ j h. subst (λ (x : Past). is_held_by x.theme x.events c.args.client j ≡ false) c.self.view_is
    (before_waiting (g.V.Made.made) p i.search i.cells.items i.owed i.counted (arc_value i.current) (vec_capacity i.events) c.first_waiting-trial.result c.self.invariant c.first_waiting-trial.ensures c.args.client j h).0

pub loop-trial-preserved : goal.loop-trial-preserved
loop-trial-preserved g c =
    let i = c.self.inside in
    let p : Past = past_of i.subject i.nest.value i.recipe.value i.search i.events.items in
    let x = lease_in (g.V.Made.made) p i.search i.cells.items i.owed i.counted (arc_value i.current) (vec_capacity i.events) c.args.client c.loop-trial.trial c.index-cell.result.now c.self.invariant (omega (arith, c.loop-trial-test.true, c.len-trial-end.ensures)) c.index-cell.ensures in
    before_more (is_held_by c.args.self.now.theme c.args.self.now.events c.args.client) c.loop-trial.trial c.loop-trial.invariant (subst (λ (x : Past). is_held_by x.theme x.events c.args.client c.loop-trial.trial ≡ false) c.self.view_is (x.0 ∙ (sym c.is_held_by.ensures ∙ c.if-is_held_by.false)))

pub returns-then-is_held_by : goal.returns-then-is_held_by
returns-then-is_held_by g c =
    let i = c.self.inside in
    let p : Past = past_of i.subject i.nest.value i.recipe.value i.search i.events.items in
    let x = lease_in (g.V.Made.made) p i.search i.cells.items i.owed i.counted (arc_value i.current) (vec_capacity i.events) c.args.client c.loop-trial.trial c.index-cell.result.now c.self.invariant (omega (arith, c.loop-trial-test.true, c.len-trial-end.ensures)) c.index-cell.ensures in
    sym (found_at (is_held_by c.args.self.now.theme c.args.self.now.events c.args.client) (trials c.args.self.now.theme c.args.self.now.events) c.loop-trial.trial c.loop-trial.invariant (subst (λ (x : Past). is_held_by x.theme x.events c.args.client c.loop-trial.trial ≡ true) c.self.view_is (x.0 ∙ (sym c.is_held_by.ensures ∙ c.if-is_held_by.true)))
    (subst (λ (x : Past). c.loop-trial.trial < trials x.theme x.events) c.self.view_is (omega (arith, c.loop-trial-test.true, c.len-trial-end.ensures, c.self.invariant.claimed))))

pub returns : goal.returns
returns g c =
    let i = c.self.inside in
    let p : Past = past_of i.subject i.nest.value i.recipe.value i.search i.events.items in
    sym (found_none (is_held_by c.args.self.now.theme c.args.self.now.events c.args.client) (trials c.args.self.now.theme c.args.self.now.events) c.loop-trial.trial c.loop-trial.invariant (λ j h. subst (λ (x : Past). is_held_by x.theme x.events c.args.client j ≡ false) c.self.view_is (let y = lease_out (g.V.Made.made) p i.search i.cells.items i.owed i.counted (arc_value i.current) (vec_capacity i.events) c.args.client j c.self.invariant (omega (arith, h, c.loop-trial-test.false, c.len-trial-end.ensures)) in y.0)))
