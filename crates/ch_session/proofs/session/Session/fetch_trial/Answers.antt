use Rattle.std.proofs.Common.{◌≡◌, ℕ, ◌+◌, ◌-◌, ◌≤◌, ◌<◌, Bool, true, false, Option, Some, None, set, List, [], ◌∷◌, ◌++◌, length, length-append, arith, ap, sym, ◌∙◌, subst, refl, vec_capacity}
use Rattle.std.specs.Arc.{arc_value}
use Rattle.ch_rank.specs.Entries.{Searched}
use Rattle.ch_session.specs.declared.event.Event.{Event}
use Rattle.ch_session.specs.declared.event.Event.TheVariants.{Claim, Good, Refused, Fetch, Leave, Report}
use Rattle.ch_session.specs.declared.cell.Cell.{Cell}
use Rattle.ch_session.specs.declared.cell.Cell.TheVariants.{Claimed, Built, Done}
use Rattle.ch_session.specs.History.{is_held_by, is_free, is_built, holds, trials, fetch_gives}
use Rattle.ch_session.specs.Replies.{Past, trial_made}
use Rattle.ch_session.specs.Kept.{past_of, IsSession}
use Rattle.ch_session.proofs.Keeping.{trials_now, owed_few, same_past}
use Rattle.ch_session.proofs.KeptLeases.{build_of, gives_built, fetch_more}
use Rattle.ch_session.proofs.session.Session.fetch_trial.Goals as goal

pub variant_of-requires : goal.variant_of-requires
variant_of-requires g c = gives_built c.args.self.now.theme c.args.self.now.events c.args.client c.args.trial c.requires

pub overflow_add-self-inside : goal.overflow_add-self-inside
overflow_add-self-inside g c =
    let i = c.self.inside in
    let p : Past = past_of i.subject i.nest.value i.recipe.value i.search i.events.items in
    let t = trials_now (g.V.Made.made) p i.search i.cells.items i.owed i.counted (arc_value i.current) (vec_capacity i.events) c.trials.result c.self.invariant c.trials.ensures.value in
    omega (arith, t, c.self.invariant.claimed, c.trials.ensures.few, c.trials.ensures.small, owed_few i.cells.items, c.self.invariant.owed_is)

pub overflow_add-self : goal.overflow_add-self
overflow_add-self g c =
    let i = c.self.inside in
    let p : Past = past_of i.subject i.nest.value i.recipe.value i.search i.events.items in
    let t = trials_now (g.V.Made.made) p i.search i.cells.items i.owed i.counted (arc_value i.current) (vec_capacity i.events) c.trials.result c.self.invariant c.trials.ensures.value in
    omega (arith, t, c.self.invariant.claimed, c.trials.ensures.few, c.trials.ensures.small, owed_few i.cells.items, c.self.invariant.owed_is)

pub index_mut-cell-requires : goal.index_mut-cell-requires
index_mut-cell-requires g c =
    let i = c.self.inside in
    let p : Past = past_of i.subject i.nest.value i.recipe.value i.search i.events.items in
    let h : fetch_gives p.theme p.events c.args.client ≡ Some c.args.trial = subst (λ (x : Past). fetch_gives x.theme x.events c.args.client ≡ Some c.args.trial) (sym c.self.view_is) c.requires in
    let k = build_of (g.V.Made.made) p i.search i.cells.items i.owed i.counted (arc_value i.current) (vec_capacity i.events) c.args.trial c.self.invariant (gives_built p.theme p.events c.args.client c.args.trial h) in
    omega (arith, k.here)

pub invariant_of-self-2 : goal.invariant_of-self-2
invariant_of-self-2 g c =
    let i = c.self.inside in
    let p : Past = past_of i.subject i.nest.value i.recipe.value i.search i.events.items in
    let h : fetch_gives p.theme p.events c.args.client ≡ Some c.args.trial = subst (λ (x : Past). fetch_gives x.theme x.events c.args.client ≡ Some c.args.trial) (sym c.self.view_is) c.requires in
    let k = build_of (g.V.Made.made) p i.search i.cells.items i.owed i.counted (arc_value i.current) (vec_capacity i.events) c.args.trial c.self.invariant (gives_built p.theme p.events c.args.client c.args.trial h) in
    let same = c.in_ok-reserve.ensures.ok.1 in
    let events = c.push_reserved.ensures.items ∙ ap (λ (v : List Event). v ++ Fetch c.args.client (Some c.args.trial) 0 ∷ []) c.reserve-2.ensures.items in
    let s = fetch_more (g.V.Made.made) p i.search c.reserve.new.self i.cells.items i.owed (i.owed + 1 - c.owes-owes.result) i.counted (arc_value i.current) (vec_capacity i.events) (vec_capacity c.push_reserved.new.self) c.args.client c.args.trial c.index_mut-cell.result.now c.lease.new.self c.push_reserved.new.self.items c.self.invariant h same c.reserve.ensures.kept c.index_mut-cell.ensures.value c.lease.ensures events
    (ap (λ (n : ℕ). i.owed + 1 - n) c.owes-owes.ensures.value) (omega (arith, c.push_reserved.ensures.capacity, c.reserve-2.ensures.capacity))
    (omega (arith, ap (λ (v : List Event). length v) events, length-append i.events.items (Fetch c.args.client (Some c.args.trial) 0 ∷ []), c.push_reserved.ensures.capacity, c.in_ok-reserve-2.ensures.ok, c.reserve-2.ensures.len)) c.in_ok-reserve.ensures.ok.0 in
    subst (λ (q : Past). IsSession (g.V.Made.made) q c.reserve.new.self (set i.cells.items c.args.trial c.lease.new.self) (i.owed + 1 - c.owes-owes.result) i.counted (arc_value i.current) (vec_capacity c.push_reserved.new.self)) (same_past i.subject i.nest.value i.recipe.value i.search c.reserve.new.self c.push_reserved.new.self.items same) s
