-- Entries that have what is said of their trials' points: the next one may be made, and has it too.
use Rattle.std.proofs.Common.{◌≡◌, ◌∙◌, sym, ap, subst, refl, ℕ, ◌<◌, Bool, true, false, not, ◌&&◌, ◌||◌, cond, nat_lt, eqb, Option, Some, None, is_some, List, [], ◌∷◌, ◌++◌, length, filter, slice_get, All, arith}
use Rattle.std.specs.List.{list_any, range_with_len}
use Rattle.std.proofs.lemmas.Bool.{eqb-true}
use Rattle.std.proofs.lemmas.Bool.Decides.{nat_tests}
use Rattle.std.proofs.lemmas.List.Elements.{All-append, All-cons, All-head, All-nil, All-tail, All-weaker}
use Rattle.ch_grid.specs.declared.param.Param.{Param}
use Rattle.ch_rank.specs.Entries.{Searched, are_legal, at_entries, is_refused, known_in, may_enter, measured, pending, played}
use Rattle.ch_rank.specs.Growth.{Keeps}
use Rattle.ch_rank.specs.Search.{point_at}
use Rattle.ch_rank.specs.declared.outcome.Costed.{Costed}
use Rattle.ch_rank.specs.declared.outcome.Outcome.{Outcome}
use Rattle.ch_rank.specs.declared.outcome.Outcome.TheVariants.{Cost, Refused}
use Rattle.ch_rank.proofs.Growing.{points_stay}
use Rattle.ch_rank.proofs.Measuring.{none_yet}
use Rattle.ch_tune.specs.Steps.{AreJudged}
use Rattle.ch_tune.specs.Tuned.{Judged, outcome_of, point_in}

-- the first of the numbers that pass a test passes it
pub first_passes : (p : ℕ → Bool) (xs : List ℕ) (t : ℕ) → slice_get (filter p xs) 0 ≡ Some t → p t ≡ true
first_passes p [] t h = absurd (cc h)
first_passes p (x ∷ xs) t h = at (p x) refl h (first_passes p xs t)
  where
    at : (b : Bool) → p x ≡ b → slice_get (cond b (x ∷ filter p xs) (filter p xs)) 0 ≡ Some t → (slice_get (filter p xs) 0 ≡ Some t → p t ≡ true) → p t ≡ true
    at true e h more = let s : x ≡ t = cc h in subst (λ y. p y ≡ true) s e
    at false e h more = more h

-- what a trial was measured at is what is said of its point
pub said_of : (f : ℕ → Outcome) (es : List Costed) (t : ℕ) → All (λ e. e.outcome ≡ f e.trial) es → All (λ o. o ≡ f t) (measured es t)
said_of f [] t h = All-nil (λ o. o ≡ f t)
said_of f (e ∷ es) t h = at (eqb e.trial t) refl (All-head (λ d. d.outcome ≡ f d.trial) e es h) (said_of f es t (All-tail (λ d. d.outcome ≡ f d.trial) e es h))
  where
    at : (b : Bool) → eqb e.trial t ≡ b → e.outcome ≡ f e.trial → All (λ o. o ≡ f t) (measured es t) → All (λ o. o ≡ f t) (cond b (e.outcome ∷ measured es t) (measured es t))
    at true q first more = All-cons (λ o. o ≡ f t) e.outcome (measured es t) (first ∙ ap f (eqb-true e.trial t q)) more
    at false q first more = more

any_refused : (os : List Outcome) → 0 < length os → All (λ o. o ≡ Refused) os → list_any is_refused os ≡ true
any_refused [] l h = absurd (omega (arith, l))
any_refused (o ∷ os) l h = ap (λ p. is_refused p || list_any is_refused os) (All-head (λ p. p ≡ Refused) o os h)

refused_is : (o : Outcome) → is_refused o ≡ true → o ≡ Refused
refused_is Refused h = refl
refused_is (Cost x) h = absurd (cc h)

not_both : (a b : Bool) → (a ≡ true → b ≡ true → ⊥) → not (a && b) ≡ true
not_both true true h = absurd (h refl refl)
not_both true false h = refl
not_both false b h = refl

less_than : (x y : ℕ) → nat_lt x y ≡ true → x < y
less_than x y h = grind (arith, nat_tests)

is_less : (x y : ℕ) → x < y → nat_lt x y ≡ true
is_less x y h = grind (arith, nat_tests)

none_of : (o : Option Outcome) → not (is_some o) ≡ true → o ≡ None
none_of None h = refl
none_of (Some o) h = absurd (cc h)

pub may_be_entered : (judged : Judged) (s : Searched) (t : ℕ) (o : Outcome) → AreJudged judged s → slice_get (pending s) 0 ≡ Some t → t < length (played s).points
    → o ≡ outcome_of (judged (point_at (played s) t)) → may_enter s t o ≡ true
may_be_entered judged s t o all least here e =
    let open_yet : not (is_some (known_in s t)) ≡ true = first_passes (λ u. not (is_some (known_in s u))) (range_with_len 0 (length (played s).points)) t least in
    let none : known_in s t ≡ None = none_of (known_in s t) open_yet in
    let clear : list_any is_refused (measured s.entries t) ≡ false = (none_yet s.repeat (measured s.entries t) none).0 in
    let said : All (λ p. p ≡ outcome_of (judged (point_at (played s) t))) (measured s.entries t) = said_of (λ u. outcome_of (judged (point_at (played s) u))) s.entries t (All-weaker (λ d. (d.trial < length (played s).points) × (d.outcome ≡ outcome_of (judged (point_at (played s) d.trial)))) (λ d. d.outcome ≡ outcome_of (judged (point_at (played s) d.trial))) (λ d h. h.1) s.entries all) in
    let free : not (is_refused o && nat_lt 0 (length (measured s.entries t))) ≡ true = not_both (is_refused o) (nat_lt 0 (length (measured s.entries t))) (λ r n.
    let same : outcome_of (judged (point_at (played s) t)) ≡ Refused = sym e ∙ refused_is o r in
    let any : list_any is_refused (measured s.entries t) ≡ true = any_refused (measured s.entries t) (less_than 0 (length (measured s.entries t)) n) (All-weaker (λ p. p ≡ outcome_of (judged (point_at (played s) t))) (λ p. p ≡ Refused) (λ p h. h ∙ same) (measured s.entries t) said) in
    cc (any, clear)) in
    joined (nat_lt t (length (played s).points)) (not (is_some (known_in s t))) _ (is_less t (length (played s).points) here) open_yet free
  where
    joined : (a b c : Bool) → a ≡ true → b ≡ true → c ≡ true → (a && b && c) ≡ true
    joined true true true x y z = refl
    joined true true false x y z = absurd (cc z)
    joined true false c x y z = absurd (cc y)
    joined false b c x y z = absurd (cc x)

-- with one more entry each still has what is said of its trial's point
pub judged_more : (judged : Judged) (grid : List Param) (r : ℕ) (es : List Costed) (e : Costed) → are_legal grid r (es ++ e ∷ []) ≡ true
    → AreJudged judged (at_entries grid r es) → e.trial < length (played (at_entries grid r es)).points
    → e.outcome ≡ outcome_of (judged (point_in grid r es e.trial)) → AreJudged judged (at_entries grid r (es ++ e ∷ []))
judged_more judged grid r es e legal all here said =
    let k : Keeps (played (at_entries grid r es)).points (played (at_entries grid r (es ++ e ∷ []))).points = points_stay grid r es (e ∷ []) legal in
    let goes : (d : Costed) → (d.trial < length (played (at_entries grid r es)).points) × (d.outcome ≡ outcome_of (judged (point_in grid r es d.trial)))
    → (d.trial < length (played (at_entries grid r (es ++ e ∷ []))).points) × (d.outcome ≡ outcome_of (judged (point_in grid r (es ++ e ∷ []) d.trial)))
    = λ d h. (omega (arith, h.0, k.long), h.1 ∙ ap (λ p. outcome_of (judged p)) (sym (k.same d.trial h.0))) in
    let now : Costed → Type 0 = λ d. (d.trial < length (played (at_entries grid r (es ++ e ∷ []))).points) × (d.outcome ≡ outcome_of (judged (point_in grid r (es ++ e ∷ []) d.trial))) in
    All-append now es (e ∷ []) (All-weaker (λ d. (d.trial < length (played (at_entries grid r es)).points) × (d.outcome ≡ outcome_of (judged (point_in grid r es d.trial)))) now goes es all)
    (All-cons now e [] (goes e (here, said)) (All-nil now))
