-- A row of costed trials, one more at a time.
use Rattle.std.proofs.Common.{◌≡◌, ℕ, zero, suc, ◌+◌, ◌<◌, ◌≤◌, List, [], ◌∷◌, ◌++◌, length, take, get_or, Option, Some, None, sym, refl, ap, ◌∙◌, subst, arith}
use Rattle.std.proofs.Math.Seq.{take-length}
use Rattle.std.proofs.lemmas.List.{take_more}
use Rattle.std.specs.List.{All}
use Rattle.std.specs.Prelude.{IfSome}
use Rattle.std.proofs.lemmas.List.Elements.{All-head, All-tail, All-cons, All-nil}
use Rattle.ch_rank.specs.declared.outcome.Outcome.{Outcome}
use Rattle.ch_rank.specs.declared.outcome.Costed.{Costed}
use Rattle.ch_rank.specs.Search.{Known, and_also, costed}

pub costed_push : (k : Known) (ts : List ℕ) (t : ℕ) (o : Outcome) (row : List Costed) → costed k ts ≡ Some row → k t ≡ Some o → costed k (ts ++ t ∷ []) ≡ Some (row ++ record { trial = t; outcome = o } ∷ [])
costed_push k [] t o row e h = let r : [] ≡ row = cc in rw (h, ← r) refl
costed_push k (u ∷ us) t o row e h = push_at u (k u) (costed k us) (costed k (us ++ t ∷ [])) row e (λ (r : List Costed) (f : costed k us ≡ Some r). costed_push k us t o r f h)
  where
    push_at : (u : ℕ) (a : Option Outcome) (xs ys : Option (List Costed)) (row : List Costed) → and_also u a xs ≡ Some row → ((r : List Costed) → xs ≡ Some r → ys ≡ Some (r ++ record { trial = t; outcome = o } ∷ [])) → and_also u a ys ≡ Some (row ++ record { trial = t; outcome = o } ∷ [])
    push_at u (Some v) (Some r) ys row e f = let q : record { trial = u; outcome = v } ∷ r ≡ row = cc in rw (f r refl, ← q) refl
    push_at u (Some v) None ys row e f = absurd (cc)
    push_at u None xs ys row e f = absurd (cc)

none_at : (t : ℕ) (a : Option Outcome) (xs : Option (List Costed)) → xs ≡ None → and_also t a xs ≡ None
none_at t (Some o) xs e = rw e refl
none_at t None xs e = refl

pub costed_none : (k : Known) (ts : List ℕ) (i : ℕ) → i < length ts → k (get_or ts i 0) ≡ None → costed k ts ≡ None
costed_none k [] i h e = absurd (omega arith)
costed_none k (t ∷ ts) zero h e = rw e refl
costed_none k (t ∷ ts) (suc i) h e = none_at t (k t) (costed k ts) (costed_none k ts i (omega arith) e)

pub costed_more : (k : Known) (ts : List ℕ) (i : ℕ) (o : Outcome) (row : List Costed) → costed k (take i ts) ≡ Some row → i < length ts → k (get_or ts i 0) ≡ Some o → costed k (take (i + 1) ts) ≡ Some (row ++ record { trial = get_or ts i 0; outcome = o } ∷ [])
costed_more k ts i o row e h f = ap (costed k) (take_more ts i 0 h) ∙ costed_push k (take i ts) (get_or ts i 0) o row e f

pub costed_all : (k : Known) (ts : List ℕ) (i : ℕ) (row : List Costed) → costed k (take i ts) ≡ Some row → i ≡ length ts → Some row ≡ costed k ts
costed_all k ts i row e h = sym e ∙ ap (costed k) (ap (λ n. take n ts) h ∙ take-length ts)

-- a row of trials that are in range is in range, and as long as they are
pub costed_in : (k : Known) (ts : List ℕ) (n : ℕ) (row : List Costed) → costed k ts ≡ Some row → All (λ t. t < n) ts → All (λ c. c.trial < n) row
costed_in k [] n row e a = let r : [] ≡ row = cc in subst (λ (v : List Costed). All (λ c. c.trial < n) v) r (All-nil (λ c. c.trial < n))
costed_in k (t ∷ ts) n row e a = in_at (k t) (costed k ts) e (λ (r : List Costed) (f : costed k ts ≡ Some r). costed_in k ts n r f (All-tail (λ u. u < n) t ts a))
  where
    in_at : (x : Option Outcome) (xs : Option (List Costed)) → and_also t x xs ≡ Some row → ((r : List Costed) → xs ≡ Some r → All (λ c. c.trial < n) r) → All (λ c. c.trial < n) row
    in_at (Some v) (Some r) e f = let q : record { trial = t; outcome = v } ∷ r ≡ row = cc in subst (λ (w : List Costed). All (λ c. c.trial < n) w) q (All-cons (λ c. c.trial < n) (record { trial = t; outcome = v }) r (All-head (λ u. u < n) t ts a) (f r refl))
    in_at (Some v) None e f = absurd (cc)
    in_at None xs e f = absurd (cc)

pub costed_long : (k : Known) (ts : List ℕ) (row : List Costed) → costed k ts ≡ Some row → length row ≡ length ts
costed_long k [] row e = let r : [] ≡ row = cc in rw (← r) refl
costed_long k (t ∷ ts) row e = long_at (k t) (costed k ts) e (λ (r : List Costed) (f : costed k ts ≡ Some r). costed_long k ts r f)
  where
    long_at : (x : Option Outcome) (xs : Option (List Costed)) → and_also t x xs ≡ Some row → ((r : List Costed) → xs ≡ Some r → length r ≡ length ts) → length row ≡ suc (length ts)
    long_at (Some v) (Some r) e f = let q : record { trial = t; outcome = v } ∷ r ≡ row = cc in rw (← q) (ap (λ n. suc n) (f r refl))
    long_at (Some v) None e f = absurd (cc)
    long_at None xs e f = absurd (cc)

pub row_facts : (k : Known) (asked : List ℕ) (n : ℕ) (r : Option (List Costed)) → r ≡ costed k asked → length asked ≤ 13 → All (λ t. t < n) asked → IfSome r (λ row. (length row ≤ 13) × (length row ≡ length asked) × All (λ c. c.trial < n) row)
row_facts k asked n None e l a = tt
row_facts k asked n (Some row) e l a = let m = costed_long k asked row (sym e) in (omega (arith, m), m, costed_in k asked n row (sym e) a)
