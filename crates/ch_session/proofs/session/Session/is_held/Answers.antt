use Rattle.std.proofs.Common.{◌≡◌, ℕ, ◌+◌, ◌-◌, ◌≤◌, ◌<◌, Bool, true, false, Option, Some, None, set, List, [], ◌∷◌, ◌++◌, length, length-append, arith, ap, sym, ◌∙◌, subst, refl, vec_capacity}
use Rattle.std.specs.Arc.{arc_value}
use Rattle.ch_rank.specs.Entries.{Searched}
use Rattle.ch_session.specs.declared.event.Event.{Event}
use Rattle.ch_session.specs.declared.event.Event.TheVariants.{Claim, Good, Refused, Fetch, Leave, Report}
use Rattle.ch_session.specs.declared.cell.Cell.{Cell}
use Rattle.ch_session.specs.declared.cell.Cell.TheVariants.{Claimed, Built, Done}
use Rattle.ch_session.specs.History.{is_held_by, is_free, is_built, holds, trials, fetch_gives}
use Rattle.ch_session.specs.Replies.{Past, trial_made}
use Rattle.ch_session.specs.Kept.{past_of, IsSession}
use Rattle.ch_session.proofs.KeptLeases.{held_out, lease_out}
use Rattle.ch_session.proofs.session.Session.is_held.Goals as goal

pub returns-then-trial-len : goal.returns-then-trial-len
returns-then-trial-len g c =
    let i = c.self.inside in
    let p : Past = past_of i.subject i.nest.value i.recipe.value i.search i.events.items in
    sym (subst (λ (x : Past). is_held_by x.theme x.events c.args.client c.args.trial ≡ false) c.self.view_is (let y = lease_out (g.V.Made.made) p i.search i.cells.items i.owed i.counted (arc_value i.current) (vec_capacity i.events) c.args.client c.args.trial c.self.invariant (omega (arith, c.len.ensures, c.if-trial-len.true)) in y.0))

pub returns : goal.returns
returns g c =
    let i = c.self.inside in
    let p : Past = past_of i.subject i.nest.value i.recipe.value i.search i.events.items in
    held_out (g.V.Made.made) p c.args.self.now i.search i.cells.items i.owed i.counted (arc_value i.current) (vec_capacity i.events) c.args.client c.args.trial c.index-cell.result.now c.is_held_by.result c.self.invariant c.self.view_is (omega (arith, c.len.ensures, c.if-trial-len.false)) c.index-cell.ensures c.is_held_by.ensures
