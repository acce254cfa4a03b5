use Rattle.std.proofs.Common.{◌≡◌, ℕ, ◌+◌, ◌-◌, ◌≤◌, ◌<◌, Bool, true, false, Option, Some, None, set, List, [], ◌∷◌, ◌++◌, length, length-append, arith, ap, sym, ◌∙◌, subst, refl, vec_capacity}
use Rattle.std.specs.Arc.{arc_value}
use Rattle.ch_rank.specs.Entries.{Searched}
use Rattle.ch_session.specs.declared.event.Event.{Event}
use Rattle.ch_session.specs.declared.event.Event.TheVariants.{Claim, Good, Refused, Fetch, Leave, Report}
use Rattle.ch_session.specs.declared.cell.Cell.{Cell}
use Rattle.ch_session.specs.declared.cell.Cell.TheVariants.{Claimed, Built, Done}
use Rattle.ch_session.specs.History.{is_held_by, is_free, is_built, holds, trials, fetch_gives, version_now}
use Rattle.ch_session.specs.Replies.{Past, trial_made, version_made}
use Rattle.ch_session.specs.Kept.{past_of, IsSession}
use Rattle.ch_session.proofs.KeptLeases.{version_is, current_more}
use Rattle.ch_session.proofs.session.Session.fetch_current.Goals as goal

pub invariant_of-self-2 : goal.invariant_of-self-2
invariant_of-self-2 g c =
    let i = c.self.inside in
    let p : Past = past_of i.subject i.nest.value i.recipe.value i.search i.events.items in
    let gives : fetch_gives p.theme p.events c.args.client ≡ None = subst (λ (x : Past). fetch_gives x.theme x.events c.args.client ≡ None) (sym c.self.view_is) c.requires in
    let events = c.push_reserved.ensures.items ∙ ap (λ (v : List Event). v ++ Fetch c.args.client None c.versions-version.result ∷ []) c.reserve.ensures.items in
    let vs = version_is (g.V.Made.made) p i.search i.cells.items i.owed i.counted (arc_value i.current) (vec_capacity i.events) c.versions-version.result c.self.invariant c.versions-version.ensures.value in
    current_more (g.V.Made.made) p i.search i.cells.items i.owed i.counted (arc_value i.current) (vec_capacity i.events) (vec_capacity c.push_reserved.new.self) c.args.client c.versions-version.result c.push_reserved.new.self.items c.self.invariant gives vs events
    (omega (arith, ap (λ (v : List Event). length v) events, length-append i.events.items (Fetch c.args.client None c.versions-version.result ∷ []), c.push_reserved.ensures.capacity, c.in_ok-reserve.ensures.ok, c.reserve.ensures.len))

pub returns-clause-reply : goal.returns-clause-reply
returns-clause-reply g c =
    let i = c.self.inside in
    let p : Past = past_of i.subject i.nest.value i.recipe.value i.search i.events.items in
    let vs = version_is (g.V.Made.made) p i.search i.cells.items i.owed i.counted (arc_value i.current) (vec_capacity i.events) c.versions-version.result c.self.invariant c.versions-version.ensures.value in
    (c.requires, subst (λ (x : Past). c.versions-version.result ≡ version_now x.theme x.events) c.self.view_is vs, subst (λ (x : Past). (g.V.Made.made) (arc_value c.in_ok-variant.variant) ≡ version_made x) c.self.view_is (ap (g.V.Made.made) c.in_ok-variant.ensures ∙ c.self.invariant.current_made), c.news-news.ensures)
