use Rattle.std.proofs.Common.{List, [], ◌∷◌, ◌++◌, length-append, ◌≡◌, ◌+◌, ◌≤◌, ◌<◌, length, arith, ap, sym, ◌∙◌, subst, refl, vec_capacity}
use Rattle.std.specs.Arc.{arc_value}
use Rattle.ch_session.specs.declared.event.Event.{Event}
use Rattle.ch_session.specs.declared.event.Event.TheVariants.{Claim}
use Rattle.ch_session.specs.declared.cell.Cell.{Cell}
use Rattle.ch_session.specs.declared.cell.Cell.TheVariants.{Claimed}
use Rattle.ch_rank.specs.Search.{point_at}
use Rattle.ch_session.specs.History.{trials, game}
use Rattle.ch_session.specs.Replies.{Past}
use Rattle.ch_session.specs.Kept.{past_of, IsSession}
use Rattle.ch_session.proofs.session.Session.claim.Goals as goal
use Rattle.ch_session.proofs.Keeping.{trials_now, no_job, job, owed_few, refused, spare_more, claimed_more, same_past}
use Rattle.ch_session.proofs.KeptLeases.{job_after}

pub overflow_cast-trial : goal.overflow_cast-trial
overflow_cast-trial g c =
    let i = c.self.inside in
    let p : Past = past_of i.subject i.nest.value i.recipe.value i.search i.events.items in
    let t = trials_now (g.V.Made.made) p i.search i.cells.items i.owed i.counted (arc_value i.current) (vec_capacity i.events) c.trials-trials.result c.self.invariant c.trials-trials.ensures.value in
    omega (arith, t, c.self.invariant.claimed, c.trials-trials.ensures.few, c.trials-trials.ensures.small, c.len-trial.ensures)

pub returns-then-trial-trials-clause-reply : goal.returns-then-trial-trials-clause-reply
returns-then-trial-trials-clause-reply g c =
    let i = c.self.inside in
    let p : Past = past_of i.subject i.nest.value i.recipe.value i.search i.events.items in
    no_job (g.V.Made.made) p c.args.self.now i.search i.cells.items i.owed i.counted (arc_value i.current) (vec_capacity i.events) c.trials-trials.result c.self.invariant c.self.view_is c.trials-trials.ensures.value (omega (arith, c.len-trial.ensures, c.if-trial-trials.true))

pub overflow_add-self-inside : goal.overflow_add-self-inside
overflow_add-self-inside g c =
    let i = c.self.inside in
    let p : Past = past_of i.subject i.nest.value i.recipe.value i.search i.events.items in
    let t = trials_now (g.V.Made.made) p i.search i.cells.items i.owed i.counted (arc_value i.current) (vec_capacity i.events) c.trials-trials.result c.self.invariant c.trials-trials.ensures.value in
    omega (arith, t, c.self.invariant.claimed, c.trials-trials.ensures.few, c.trials-trials.ensures.small, owed_few i.cells.items, c.self.invariant.owed_is)

pub invariant_of-self-in_err-reserve-2 : goal.invariant_of-self-in_err-reserve-2
invariant_of-self-in_err-reserve-2 g c =
    let i = c.self.inside in
    let p : Past = past_of i.subject i.nest.value i.recipe.value i.search i.events.items in
    let same = refused i.search c.reserve-2.new.self c.in_err-reserve-2.ensures.err in
    let s = spare_more (g.V.Made.made) p i.search c.reserve-2.new.self i.cells.items i.owed i.counted (arc_value i.current) (vec_capacity i.events) (vec_capacity i.events) c.self.invariant same c.reserve-2.ensures.kept (omega arith) in
    subst (λ (q : Past). IsSession (g.V.Made.made) q c.reserve-2.new.self c.reserve.new.self.items i.owed i.counted (arc_value i.current) (vec_capacity i.events)) (same_past i.subject i.nest.value i.recipe.value i.search c.reserve-2.new.self i.events.items same)
    (subst (λ (v : List (Cell g.row.V.Denot)). IsSession (g.V.Made.made) p c.reserve-2.new.self v i.owed i.counted (arc_value i.current) (vec_capacity i.events)) (sym c.reserve.ensures.items) s)

pub overflow_add-self : goal.overflow_add-self
overflow_add-self g c =
    let i = c.self.inside in
    let p : Past = past_of i.subject i.nest.value i.recipe.value i.search i.events.items in
    let t = trials_now (g.V.Made.made) p i.search i.cells.items i.owed i.counted (arc_value i.current) (vec_capacity i.events) c.trials-trials.result c.self.invariant c.trials-trials.ensures.value in
    omega (arith, t, c.self.invariant.claimed, c.trials-trials.ensures.few, c.trials-trials.ensures.small, owed_few i.cells.items, c.self.invariant.owed_is)

pub invariant_of-self-2 : goal.invariant_of-self-2
invariant_of-self-2 g c =
    let i = c.self.inside in
    let p : Past = past_of i.subject i.nest.value i.recipe.value i.search i.events.items in
    let same = c.in_ok-reserve-2.ensures.ok.1 in
    let events = c.push_reserved-2.ensures.items ∙ ap (λ (v : List Event). v ++ Claim c.args.builder c.len-trial.result ∷ []) c.reserve-3.ensures.items in
    let t = trials_now (g.V.Made.made) p i.search i.cells.items i.owed i.counted (arc_value i.current) (vec_capacity i.events) c.trials-trials.result c.self.invariant c.trials-trials.ensures.value in
    let s = claimed_more (g.V.Made.made) p i.search c.reserve-2.new.self i.cells.items c.push_reserved.new.self.items i.owed (i.owed + 1) i.counted (arc_value i.current) (vec_capacity i.events) (vec_capacity c.push_reserved-2.new.self) c.args.builder c.len-trial.result c.push_reserved-2.new.self.items c.self.invariant
    (omega (arith, c.len-trial.ensures)) (omega (arith, t, c.if-trial-trials.false)) same (c.push_reserved.ensures.items ∙ ap (λ (v : List (Cell g.row.V.Denot)). v ++ Claimed c.args.builder ∷ []) c.reserve.ensures.items) refl events
    (omega (arith, ap (λ (v : List Event). length v) events, length-append i.events.items (Claim c.args.builder c.len-trial.result ∷ []), c.push_reserved-2.ensures.capacity, c.in_ok-reserve-3.ensures.ok, c.reserve-3.ensures.len)) c.in_ok-reserve-2.ensures.ok.0 in
    subst (λ (q : Past). IsSession (g.V.Made.made) q c.reserve-2.new.self c.push_reserved.new.self.items (i.owed + 1) i.counted (arc_value i.current) (vec_capacity c.push_reserved-2.new.self)) (same_past i.subject i.nest.value i.recipe.value i.search c.reserve-2.new.self c.push_reserved-2.new.self.items same) s

pub returns-clause-reply : goal.returns-clause-reply
returns-clause-reply g c =
    let i = c.self.inside in
    let p : Past = past_of i.subject i.nest.value i.recipe.value i.search i.events.items in
    job (g.V.Made.made) p c.args.self.now i.search i.cells.items i.owed i.counted (arc_value i.current) (vec_capacity i.events) c.trials-trials.result c.len-trial.result c.in_ok-point.point c.self.invariant c.self.view_is c.trials-trials.ensures.value (omega (arith, c.len-trial.ensures)) (omega (arith, c.if-trial-trials.false)) (c.in_ok-point.ensures ∙ c.point_of.ensures.value)

pub returns-clause-job : goal.returns-clause-job
returns-clause-job g c =
    let i = c.self.inside in
    let p : Past = past_of i.subject i.nest.value i.recipe.value i.search i.events.items in
    let same = c.in_ok-reserve-2.ensures.ok.1 in
    let events = c.push_reserved-2.ensures.items ∙ ap (λ (v : List Event). v ++ Claim c.args.builder c.len-trial.result ∷ []) c.reserve-3.ensures.items in
    let t = trials_now (g.V.Made.made) p i.search i.cells.items i.owed i.counted (arc_value i.current) (vec_capacity i.events) c.trials-trials.result c.self.invariant c.trials-trials.ensures.value in
    let j = job (g.V.Made.made) p p i.search i.cells.items i.owed i.counted (arc_value i.current) (vec_capacity i.events) c.trials-trials.result c.len-trial.result c.in_ok-point.point c.self.invariant refl c.trials-trials.ensures.value (omega (arith, c.len-trial.ensures)) (omega (arith, c.if-trial-trials.false)) (c.in_ok-point.ensures ∙ c.point_of.ensures.value) in
    subst (λ (q : Past). (c.len-trial.result < trials q.theme q.events) × (c.in_ok-point.point ≡ point_at (game q.theme q.events) c.len-trial.result)) (same_past i.subject i.nest.value i.recipe.value i.search c.reserve-2.new.self c.push_reserved-2.new.self.items same)
    (job_after p.theme p.events c.push_reserved-2.new.self.items c.args.builder c.len-trial.result c.in_ok-point.point (omega (arith, t, c.if-trial-trials.false), j.1) events)
