use Rattle.std.proofs.Common.{nat_lt, ◌≡◌, ℕ, ◌+◌, ◌-◌, ◌≤◌, ◌<◌, Bool, true, false, Option, Some, None, set, List, [], ◌∷◌, ◌++◌, length, length-append, arith, ap, sym, ◌∙◌, subst, refl, vec_capacity}
use Rattle.std.specs.Arc.{arc_value}
use Rattle.ch_rank.specs.Entries.{Searched, may_enter}
use Rattle.ch_rank.specs.declared.outcome.Outcome.TheVariants.{Cost}
use Rattle.ch_session.specs.declared.event.Event.{Event}
use Rattle.ch_session.specs.declared.event.Event.TheVariants.{Claim, Good, Refused, Fetch, Leave, Report}
use Rattle.ch_session.specs.declared.cell.Cell.{Cell}
use Rattle.ch_session.specs.declared.cell.Cell.TheVariants.{Claimed, Built, Done}
use Rattle.ch_session.specs.History.{is_held_by, is_free, is_built, holds, trials, fetch_gives, left_after}
use Rattle.ch_session.specs.Replies.{Past, trial_made}
use Rattle.ch_session.specs.Kept.{past_of, renewed, IsSession}
use Rattle.ch_session.proofs.Keeping.{past_same}
use Rattle.ch_session.proofs.KeptLeases.{held_of, may_in, completed_last}
use Rattle.ch_session.proofs.session.Session.completed.Goals as goal

pub enter-requires : goal.enter-requires
enter-requires g c =
    let i = c.self.inside in
    let p : Past = past_of i.subject i.nest.value i.recipe.value i.search i.events.items in
    let h : is_held_by p.theme p.events c.args.client c.args.trial ≡ true = subst (λ (x : Past). is_held_by x.theme x.events c.args.client c.args.trial ≡ true) (sym c.self.view_is) c.requires.held in
    let k = held_of (g.V.Made.made) p i.search i.cells.items i.owed i.counted (arc_value i.current) (vec_capacity i.events) c.args.client c.args.trial c.self.invariant h in
    omega (arith, k.owed, c.self.invariant.owed_is, c.self.invariant.spare)

pub unreachable-requires : goal.unreachable-requires
unreachable-requires g c =
    let i = c.self.inside in
    let p : Past = past_of i.subject i.nest.value i.recipe.value i.search i.events.items in
    let h : is_held_by p.theme p.events c.args.client c.args.trial ≡ true = subst (λ (x : Past). is_held_by x.theme x.events c.args.client c.args.trial ≡ true) (sym c.self.view_is) c.requires.held in
    let k = held_of (g.V.Made.made) p i.search i.cells.items i.owed i.counted (arc_value i.current) (vec_capacity i.events) c.args.client c.args.trial c.self.invariant h in
    let may = may_in (g.V.Made.made) p i.search i.cells.items i.owed i.counted (arc_value i.current) (vec_capacity i.events) c.args.trial (Cost c.args.cost) c.self.invariant (k.may c.args.cost) in
    true_false (may_enter i.search c.args.trial (Cost c.args.cost)) may c.in_default.ensures.err.1
  where
    true_false : (b : Bool) → b ≡ true → b ≡ false → ⊥
    true_false b x y = cc

pub overflow_sub-self : goal.overflow_sub-self
overflow_sub-self g c =
    let i = c.self.inside in
    let p : Past = past_of i.subject i.nest.value i.recipe.value i.search i.events.items in
    let h : is_held_by p.theme p.events c.args.client c.args.trial ≡ true = subst (λ (x : Past). is_held_by x.theme x.events c.args.client c.args.trial ≡ true) (sym c.self.view_is) c.requires.held in
    let k = held_of (g.V.Made.made) p i.search i.cells.items i.owed i.counted (arc_value i.current) (vec_capacity i.events) c.args.client c.args.trial c.self.invariant h in
    omega (arith, k.owed, c.self.invariant.owed_is)

pub push_reserved-requires : goal.push_reserved-requires
push_reserved-requires g c =
    let i = c.self.inside in
    let p : Past = past_of i.subject i.nest.value i.recipe.value i.search i.events.items in
    let h : is_held_by p.theme p.events c.args.client c.args.trial ≡ true = subst (λ (x : Past). is_held_by x.theme x.events c.args.client c.args.trial ≡ true) (sym c.self.view_is) c.requires.held in
    let k = held_of (g.V.Made.made) p i.search i.cells.items i.owed i.counted (arc_value i.current) (vec_capacity i.events) c.args.client c.args.trial c.self.invariant h in
    omega (arith, k.owed, c.self.invariant.owed_is, c.self.invariant.room)

pub invariant_of-self : goal.invariant_of-self
invariant_of-self g c =
    let i = c.self.inside in
    let p : Past = past_of i.subject i.nest.value i.recipe.value i.search i.events.items in
    let h : is_held_by p.theme p.events c.args.client c.args.trial ≡ true = subst (λ (x : Past). is_held_by x.theme x.events c.args.client c.args.trial ≡ true) (sym c.self.view_is) c.requires.held in
    let k = held_of (g.V.Made.made) p i.search i.cells.items i.owed i.counted (arc_value i.current) (vec_capacity i.events) c.args.client c.args.trial c.self.invariant h in
    let l : left_after p.theme p.events c.args.trial ≡ 0 = subst (λ (x : Past). left_after x.theme x.events c.args.trial ≡ 0) (sym c.self.view_is) c.requires.left in
    let same = c.in-Ok.ensures.ok.1 in
    let s = completed_last (g.V.Made.made) p i.search c.enter.new.self i.cells.items i.owed i.counted i.current c.renew.new.current (vec_capacity i.events) (vec_capacity c.push_reserved.new.self) c.args.client c.args.trial c.args.call c.args.cost c.versions-versions.result c.versions.result c.index_mut.result.now c.push_reserved.new.self.items c.self.invariant k h l same c.index_mut.ensures.value c.versions-versions.ensures.value c.versions.ensures.value
    (c.renew.ensures ∙ ap (λ (x : Cell g.row.V.Denot). renewed i.current x (nat_lt c.versions-versions.result c.versions.result)) c.replace-cell.ensures.value) c.push_reserved.ensures.items c.push_reserved.ensures.capacity in
    subst (λ (x : Cell g.row.V.Denot). IsSession (g.V.Made.made) (past_of i.subject i.nest.value i.recipe.value c.enter.new.self c.push_reserved.new.self.items) c.enter.new.self (set i.cells.items c.args.trial x) (i.owed - 1) i.counted (arc_value c.renew.new.current) (vec_capacity c.push_reserved.new.self)) (sym c.replace-cell.ensures.after)
    (subst (λ (q : Past). IsSession (g.V.Made.made) q c.enter.new.self (set i.cells.items c.args.trial Done) (i.owed - 1) i.counted (arc_value c.renew.new.current) (vec_capacity c.push_reserved.new.self)) (past_same i.subject i.nest.value i.recipe.value i.search c.enter.new.self c.push_reserved.new.self.items (ap (λ (x : Searched). x.grid) same) (ap (λ (x : Searched). x.repeat) same)) s)
