-- As a history goes on, neither its versions nor its news fall.
use Rattle.std.proofs.Common.{◌≡◌, ℕ, ◌≤◌, Bool, true, false, cond, List, [], ◌∷◌, ◌++◌, length, sym, ap, ◌∙◌, subst, arith, append_assoc, append-nil}
use Rattle.ch_rank.specs.declared.outcome.Costed.{Costed}
use Rattle.ch_rank.specs.declared.outcome.Outcome.{Outcome}
use Rattle.ch_rank.specs.Entries.{completed, completed_after, completes}
use Rattle.ch_rank.specs.Ranks.{versions, versions_below}
use Rattle.ch_rank.specs.Search.{below}
use Rattle.ch_session.specs.declared.event.Event.{Event}
use Rattle.ch_session.specs.Growth.{news_grow}
use Rattle.ch_session.specs.History.{Theme, entries, news, top, version_now}
use Rattle.ch_session.proofs.Legal.{entries_append}
use Rattle.ch_turn.specs.History.{IsPrefix}

pub completed_append : (r : ℕ) (before xs ys : List Costed) → completed_after r before (xs ++ ys) ≡ completed_after r before xs ++ completed_after r (before ++ xs) ys
completed_append r before [] ys = ap (λ z. completed_after r z ys) (sym (append-nil before))
completed_append r before (x ∷ xs) ys =
    let one = completes r before x in
    let first = completed_after r (before ++ x ∷ []) xs in
    ap (λ z. one ++ z) (completed_append r (before ++ x ∷ []) xs ys ∙ ap (λ z. first ++ completed_after r z ys) (append_assoc before (x ∷ []) xs)) ∙ sym (append_assoc one first (completed_after r (before ++ x ∷ xs) ys))

pub versions_grow : (o : Outcome) (xs ys : List Costed) → length (versions_below o xs) ≤ length (versions_below o (xs ++ ys))
versions_grow o [] ys = omega arith
versions_grow o (x ∷ xs) ys = at (below x.outcome o) (versions_grow x.outcome xs ys) (versions_grow o xs ys)
  where
    at : (b : Bool) → length (versions_below x.outcome xs) ≤ length (versions_below x.outcome (xs ++ ys)) → length (versions_below o xs) ≤ length (versions_below o (xs ++ ys)) →
        length (cond b (x ∷ versions_below x.outcome xs) (versions_below o xs)) ≤ length (cond b (x ∷ versions_below x.outcome (xs ++ ys)) (versions_below o (xs ++ ys)))
    at true p q = omega arith
    at false p q = q

pub version_grows : (th : Theme) (g h : List Event) → IsPrefix g h → version_now th g ≤ version_now th h
version_grows th g h p =
    let r : ℕ = th.repeat in
    let whole : completed r (entries h) ≡ completed r (entries g) ++ completed_after r (entries g) (entries p.0) = ap (completed r) (ap entries p.1 ∙ entries_append g p.0) ∙ completed_append r [] (entries g) (entries p.0) in
    subst (λ (z : List Costed). length (versions (completed r (entries g))) ≤ length (versions z)) (sym whole) (versions_grow top (completed r (entries g)) (completed_after r (entries g) (entries p.0)))

pub news_grows : (g h : List Event) → IsPrefix g h → news g ≤ news h
news_grows g h p = subst (λ (v : List Event). news g ≤ news v) (sym p.1) (news_grow g p.0)
