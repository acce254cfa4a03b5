use Rattle.std.proofs.Common.{◌≡◌, ℕ, ◌+◌, ◌-◌, ◌≤◌, ◌<◌, Bool, true, false, Option, Some, None, set, List, [], ◌∷◌, ◌++◌, length, length-append, arith, ap, sym, ◌∙◌, subst, refl, vec_capacity}
use Rattle.std.specs.Arc.{arc_value}
use Rattle.ch_rank.specs.Entries.{Searched}
use Rattle.ch_session.specs.declared.event.Event.{Event}
use Rattle.ch_session.specs.declared.event.Event.TheVariants.{Claim, Good, Refused, Fetch, Leave, Report}
use Rattle.ch_session.specs.declared.cell.Cell.{Cell}
use Rattle.ch_session.specs.declared.cell.Cell.TheVariants.{Claimed, Built, Done}
use Rattle.ch_session.specs.History.{is_held_by, is_free, is_built, holds, trials, fetch_gives}
use Rattle.ch_session.specs.Replies.{Past, trial_made}
use Rattle.ch_session.specs.Kept.{past_of, IsSession}
use Rattle.ch_session.proofs.Keeping.{counted_few}
use Rattle.ch_session.proofs.KeptLeases.{holds_true, build_of, held_built, lease_owed, release_more}
use Rattle.ch_session.proofs.session.Session.release.Goals as goal

pub index_mut-cell-requires : goal.index_mut-cell-requires
index_mut-cell-requires g c =
    let i = c.self.inside in
    let p : Past = past_of i.subject i.nest.value i.recipe.value i.search i.events.items in
    let h : holds p.theme p.events c.args.client ≡ Some c.args.trial = subst (λ (x : Past). holds x.theme x.events c.args.client ≡ Some c.args.trial) (sym c.self.view_is) c.requires.held in
    let held = holds_true p.theme p.events c.args.client c.args.trial h in
    let k = build_of (g.V.Made.made) p i.search i.cells.items i.owed i.counted (arc_value i.current) (vec_capacity i.events) c.args.trial c.self.invariant (held_built p.theme p.events c.args.client c.args.trial held.0) in
    let some = lease_owed (g.V.Made.made) p i.search i.cells.items i.owed i.counted (arc_value i.current) (vec_capacity i.events) c.args.client c.args.trial c.self.invariant k held.0 in
    omega (arith, k.here)

pub overflow_sub-self : goal.overflow_sub-self
overflow_sub-self g c =
    let i = c.self.inside in
    let p : Past = past_of i.subject i.nest.value i.recipe.value i.search i.events.items in
    let h : holds p.theme p.events c.args.client ≡ Some c.args.trial = subst (λ (x : Past). holds x.theme x.events c.args.client ≡ Some c.args.trial) (sym c.self.view_is) c.requires.held in
    let held = holds_true p.theme p.events c.args.client c.args.trial h in
    let k = build_of (g.V.Made.made) p i.search i.cells.items i.owed i.counted (arc_value i.current) (vec_capacity i.events) c.args.trial c.self.invariant (held_built p.theme p.events c.args.client c.args.trial held.0) in
    let some = lease_owed (g.V.Made.made) p i.search i.cells.items i.owed i.counted (arc_value i.current) (vec_capacity i.events) c.args.client c.args.trial c.self.invariant k held.0 in
    omega (arith, some)

pub overflow_add-self : goal.overflow_add-self
overflow_add-self g c =
    let i = c.self.inside in
    let p : Past = past_of i.subject i.nest.value i.recipe.value i.search i.events.items in
    let h : holds p.theme p.events c.args.client ≡ Some c.args.trial = subst (λ (x : Past). holds x.theme x.events c.args.client ≡ Some c.args.trial) (sym c.self.view_is) c.requires.held in
    let held = holds_true p.theme p.events c.args.client c.args.trial h in
    let k = build_of (g.V.Made.made) p i.search i.cells.items i.owed i.counted (arc_value i.current) (vec_capacity i.events) c.args.trial c.self.invariant (held_built p.theme p.events c.args.client c.args.trial held.0) in
    let some = lease_owed (g.V.Made.made) p i.search i.cells.items i.owed i.counted (arc_value i.current) (vec_capacity i.events) c.args.client c.args.trial c.self.invariant k held.0 in
    let f = counted_few (g.V.Made.made) p i.search i.cells.items i.owed i.counted (arc_value i.current) (vec_capacity i.events) c.self.invariant in
    omega (arith, f, some, c.self.invariant.room, i.events.small)

pub push_reserved-requires : goal.push_reserved-requires
push_reserved-requires g c =
    let i = c.self.inside in
    let p : Past = past_of i.subject i.nest.value i.recipe.value i.search i.events.items in
    let h : holds p.theme p.events c.args.client ≡ Some c.args.trial = subst (λ (x : Past). holds x.theme x.events c.args.client ≡ Some c.args.trial) (sym c.self.view_is) c.requires.held in
    let held = holds_true p.theme p.events c.args.client c.args.trial h in
    let k = build_of (g.V.Made.made) p i.search i.cells.items i.owed i.counted (arc_value i.current) (vec_capacity i.events) c.args.trial c.self.invariant (held_built p.theme p.events c.args.client c.args.trial held.0) in
    let some = lease_owed (g.V.Made.made) p i.search i.cells.items i.owed i.counted (arc_value i.current) (vec_capacity i.events) c.args.client c.args.trial c.self.invariant k held.0 in
    omega (arith, some, c.self.invariant.room)

pub invariant_of-self : goal.invariant_of-self
invariant_of-self g c =
    let i = c.self.inside in
    let p : Past = past_of i.subject i.nest.value i.recipe.value i.search i.events.items in
    let h : holds p.theme p.events c.args.client ≡ Some c.args.trial = subst (λ (x : Past). holds x.theme x.events c.args.client ≡ Some c.args.trial) (sym c.self.view_is) c.requires.held in
    let held = holds_true p.theme p.events c.args.client c.args.trial h in
    let k = build_of (g.V.Made.made) p i.search i.cells.items i.owed i.counted (arc_value i.current) (vec_capacity i.events) c.args.trial c.self.invariant (held_built p.theme p.events c.args.client c.args.trial held.0) in
    let some = lease_owed (g.V.Made.made) p i.search i.cells.items i.owed i.counted (arc_value i.current) (vec_capacity i.events) c.args.client c.args.trial c.self.invariant k held.0 in
    release_more (g.V.Made.made) p i.search i.cells.items i.owed i.counted (arc_value i.current) (vec_capacity i.events) (vec_capacity c.push_reserved.new.self) c.args.client c.args.trial c.index_mut-cell.result.now c.lease.new.self c.push_reserved.new.self.items c.self.invariant k held.0 some c.index_mut-cell.ensures.value c.lease.ensures c.push_reserved.ensures.items c.push_reserved.ensures.capacity
