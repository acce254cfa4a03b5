-- What stays as entries come: the trials so far keep their points.
use Rattle.std.proofs.Common.{◌≡◌, ℕ, ◌+◌, ◌*◌, ◌<◌, ◌≤◌, Bool, true, false, ◌&&◌, not, nat_lt, List, [], ◌∷◌, ◌++◌, length, Option, Some, None, is_some, refl, sym, ap, ◌∙◌, subst, arith, append_assoc, append-nil}
use Rattle.ch_grid.specs.declared.param.Param.{Param}
use Rattle.ch_grid.specs.Grid.{sizes}
use Rattle.ch_rank.specs.declared.outcome.Outcome.{Outcome}
use Rattle.ch_rank.specs.declared.outcome.Costed.{Costed}
use Rattle.ch_rank.specs.Bound.{bound}
use Rattle.ch_rank.specs.Leads.{Leads}
use Rattle.ch_rank.specs.Leads.Leads.{stay, round}
use Rattle.ch_rank.specs.declared.phase.Phase.{Phase}
use Rattle.ch_rank.specs.declared.phase.Phase.TheVariants.{Start, Reflect, Try, Expand, Shrink, Probe, Converged}
use Rattle.ch_rank.specs.Search.{rounds_left, Game, Known, advance, play, opening, search_on}
use Rattle.ch_rank.specs.Entries.{are_legal, at_entries, played, known, may_enter, are_legal_after, is_pending, Searched}
use Rattle.ch_rank.proofs.Asking.{keeps_self}
use Rattle.ch_rank.specs.Growth.{Keeps, Knows}
use Rattle.ch_rank.proofs.Asking as asking
use Rattle.ch_rank.proofs.Rounds.{keeps_on}
use Rattle.ch_rank.proofs.Replay.{leads_more, leads_on, leads_to_play, settles, ends_alike}
use Rattle.ch_rank.proofs.Measuring.{known_more}
use Rattle.ch_rank.proofs.Legal.{legal_parts}

keeps_along : (most : ℕ) (k : Known) (g h : Game) → Leads most k g h → Keeps g.points h.points
keeps_along most k _ _ (stay g) = keeps_self g.points
keeps_along most k _ _ (round g h j e l) = asking.keeps_on g.points h.points j.points (keeps_on most k g h e) (keeps_along most k h j l)

rounds_few : (ph : Phase) → rounds_left ph ≤ 3
rounds_few Start = omega arith
rounds_few Reflect = omega arith
rounds_few Try = omega arith
rounds_few Expand = omega arith
rounds_few Shrink = omega arith
rounds_few Probe = omega arith
rounds_few Converged = omega arith

pub points_grow : (ns : List ℕ) (k k' : Known) → Knows k k' → Keeps (search_on ns k).points (search_on ns k').points
unfolding search_on
points_grow ns k k' more =
    let most : ℕ = bound ns in
    let n : ℕ = 3 * most + 4 in
    let o : Game = opening ns in
    let g : Game = play most n k o in
    let h : Game = play most n k' g in
    let first : Leads most k' o g = leads_more most k k' more o g (leads_to_play most k n o) in
    let then_on : Leads most k' g h = leads_to_play most k' n g in
    let same : h ≡ play most n k' o = ends_alike most k' o h (play most n k' o) (leads_on most k' o g h first then_on) (settles most k' n g (omega (arith, rounds_few g.phase))) (leads_to_play most k' n o) (settles most k' n o (omega arith)) in
    subst (λ (x : Game). Keeps g.points x.points) same (keeps_along most k' g h then_on)

both : (a b : Bool) → (a && b) ≡ true → (a ≡ true) × (b ≡ true)
both true b h = (refl, h)
both false b h = absurd (cc)

not_known : (o : Option Outcome) → not (is_some o) ≡ true → o ≡ None
not_known None e = refl
not_known (Some o) e = absurd (cc)

-- an entry that may be made is of a trial without an outcome
pub entered_none : (s : Searched) (t : ℕ) (o : Outcome) → may_enter s t o ≡ true → known s.repeat s.entries t ≡ None
entered_none s t o h = let a = both (is_pending s t) _ h in let b = both _ (not (is_some (known s.repeat s.entries t))) a.0 in not_known (known s.repeat s.entries t) b.1

-- legal entries take no outcome back
pub entries_grow : (grid : List Param) (r : ℕ) (es more : List Costed) → are_legal_after grid r es more ≡ true → Knows (known r es) (known r (es ++ more))
entries_grow grid r es [] h t o e = subst (λ (v : List Costed). known r v t ≡ Some o) (sym (append-nil es)) e
entries_grow grid r es (c ∷ more) h t o e =
    let b = both (may_enter (at_entries grid r es) c.trial c.outcome) (are_legal_after grid r (es ++ c ∷ []) more) h in
    let n : known r es c.trial ≡ None = entered_none (at_entries grid r es) c.trial c.outcome b.0 in
    subst (λ (v : List Costed). known r v t ≡ Some o) (append_assoc es (c ∷ []) more) (entries_grow grid r (es ++ c ∷ []) more b.1 t o (known_more r es c t o n e))

pub outcomes_stay : (grid : List Param) (r : ℕ) (es more : List Costed) → are_legal grid r (es ++ more) ≡ true → Knows (known r es) (known r (es ++ more))
outcomes_stay grid r es more h = entries_grow grid r es more (legal_parts grid r [] es more h).1

pub points_stay : (grid : List Param) (r : ℕ) (es more : List Costed) → are_legal grid r (es ++ more) ≡ true → Keeps (played (at_entries grid r es)).points (played (at_entries grid r (es ++ more))).points
points_stay grid r es more h = points_grow (sizes grid) (known r es) (known r (es ++ more)) (outcomes_stay grid r es more h)
