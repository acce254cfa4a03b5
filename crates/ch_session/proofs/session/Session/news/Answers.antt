use Rattle.std.proofs.Common.{◌≡◌, ◌+◌, ◌-◌, ◌≤◌, ◌<◌, Bool, true, false, set, List, [], ◌∷◌, ◌++◌, length, length-append, arith, ap, sym, ◌∙◌, subst, refl, vec_capacity}
use Rattle.std.specs.Arc.{arc_value}
use Rattle.ch_session.specs.declared.event.Event.{Event}
use Rattle.ch_session.specs.declared.event.Event.TheVariants.{Claim, Good, Refused}
use Rattle.ch_session.specs.declared.cell.Cell.{Cell}
use Rattle.ch_session.specs.declared.cell.Cell.TheVariants.{Claimed, Built, Done}
use Rattle.ch_session.specs.History.{is_held_by, is_free, holds, trials}
use Rattle.ch_session.specs.Replies.{Past, trial_made}
use Rattle.ch_session.specs.Kept.{past_of, IsSession}
use Rattle.ch_session.proofs.Keeping.{counted_few}
use Rattle.ch_session.proofs.KeptLeases.{news_now}
use Rattle.ch_session.proofs.session.Session.news.Goals as goal

pub overflow_add-result : goal.overflow_add-result
overflow_add-result g c =
    let i = c.self.inside in
    let p : Past = past_of i.subject i.nest.value i.recipe.value i.search i.events.items in
    let f = counted_few (g.V.Made.made) p i.search i.cells.items i.owed i.counted (arc_value i.current) (vec_capacity i.events) c.self.invariant in
    omega (arith, f, i.events.small, i.events.ok, c.versions.type_inv)

pub returns : goal.returns
returns g c =
    let i = c.self.inside in
    let p : Past = past_of i.subject i.nest.value i.recipe.value i.search i.events.items in
    news_now (g.V.Made.made) p c.args.self.now i.search i.cells.items i.owed i.counted (arc_value i.current) (vec_capacity i.events) c.versions.result c.self.invariant c.self.view_is c.versions.ensures.value
