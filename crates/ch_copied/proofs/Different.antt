-- The different members of a list: they are its members, each of them once.
use Rattle.std.proofs.Common.{◌≡◌, ap, ◌∙◌, sym, Bool, true, false, not, cond, List, [], ◌∷◌, inl, inr}
use Rattle.std.specs.List.{filter}
use Rattle.std.proofs.lemmas.Bool.{cases_Bool, not_from_false}
use Rattle.ch_timed.specs.Members.{Each, In, Pairwise}
use Rattle.ch_timed.proofs.Orders.{at_each}
use Rattle.ch_copied.specs.Accesses.{different}
use Rattle.ch_copied.proofs.Lists.{each_by, filter_in, in_filter}

-- two things that are not one
abbrev pub Unlike : {X : Type 0} → X → X → Type 0
Unlike x y = x ≡ y → ⊥

pairs_kept : {X : Type 0} (R : X → X → Type 0) (b : Bool) (x : X) (rest : List X) → Each (R x) rest → Pairwise R rest → Pairwise R (cond b (x ∷ rest) rest)
pairs_kept R true x rest h p = (h, p)
pairs_kept R false x rest h p = p

pairs_filter : {X : Type 0} (R : X → X → Type 0) (t : X → Bool) (xs : List X) → Pairwise R xs → Pairwise R (filter t xs)
pairs_filter R t [] p = tt
pairs_filter R t (x ∷ xs) p =
    pairs_kept R (t x) x (filter t xs) (each_by (R x) (filter t xs) (λ y i. at_each (R x) xs p.0 y (in_filter t xs y i).0)) (pairs_filter R t xs p.1)

not_same : (b : Bool) → not b ≡ true → b ≡ true → ⊥
not_same true n h = cc
not_same false n h = cc

module _ {X : Type 0} (same : X → X → Bool) where
  pub in_different : (xs : List X) (x : X) → In x (different same xs) → In x xs
  in_different [] x i = absurd i
  in_different (y ∷ more) x (inl e) = inl e
  in_different (y ∷ more) x (inr i) = inr (in_different more x (in_filter (λ z. not (same y z)) (different same more) x i).0)

  pub different_in : ((x y : X) → same x y ≡ true → x ≡ y) → (xs : List X) (x : X) → In x xs → In x (different same xs)
  different_in is [] x i = absurd i
  different_in is (y ∷ more) x (inl e) = inl e
  different_in is (y ∷ more) x (inr i) = elim (cases_Bool (same y x)) as (λ _. In x (different same (y ∷ more))) [
    | inl h ↦ inl (is y x h)
    | inr h ↦ inr (filter_in (λ z. not (same y z)) (different same more) x (different_in is more x i) (not_from_false _ h))
  ]

  pub all_different : ((x : X) → same x x ≡ true) → (xs : List X) → Pairwise Unlike (different same xs)
  all_different self [] = tt
  all_different self (x ∷ more) = (
    each_by (Unlike x) (filter (λ z. not (same x z)) (different same more))
        (λ y i e. not_same (same x y) (in_filter (λ z. not (same x z)) (different same more) y i).1 (ap (same x) (sym e) ∙ self x)),
    pairs_filter Unlike (λ z. not (same x z)) (different same more) (all_different self more),
  )
