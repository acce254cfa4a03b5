-- The texts of a list's elements, one after the other, tell the elements, where each begins as no text does that stands behind the list.
use Rattle.std.proofs.Common.{◌≡◌, refl, sym, ap, ◌∙◌, subst, ℕ, suc, Bool, true, false, ◌&&◌, nat_eq, List, [], ◌∷◌, ◌++◌, append_assoc}
use Rattle.std.proofs.lemmas.Bool.{both_ways}

-- a text begins with this byte, or with these two
abbrev pub leads : ℕ → List ℕ → Bool
leads b [] = false
leads b (c ∷ cs) = nat_eq b c

abbrev pub leads_with : ℕ → ℕ → List ℕ → Bool
leads_with a b [] = false
leads_with a b (c ∷ cs) = nat_eq a c && leads b cs

pub apart_by : (begins : List ℕ → Bool) (r q : List ℕ) → begins r ≡ false → begins q ≡ true → r ≡ q → ⊥
apart_by begins r q h k e = both_ways _ h (ap begins e ∙ k)

module _ {A : Type 0} (text : ℕ → A → List ℕ) (all : ℕ → List A → List ℕ) (none : (k : ℕ) → all k [] ≡ []) (more : (k : ℕ) (x : A) (xs : List A) → all k (x ∷ xs) ≡ text k x ++ all (suc k) xs)
    (begins : List ℕ → Bool) (Fits : List ℕ → Type 0) (begun : (k : ℕ) (x : A) (t : List ℕ) → begins (text k x ++ t) ≡ true) (fits : (k : ℕ) (x : A) (t : List ℕ) → Fits (text k x ++ t))
    (read : (k : ℕ) (x y : A) (r q : List ℕ) → Fits r → Fits q → text k x ++ r ≡ text k y ++ q → (x ≡ y) × (r ≡ q)) where
  none_is : (k : ℕ) (r : List ℕ) → all k [] ++ r ≡ r
  none_is k r = ap (λ t. t ++ r) (none k)

  more_is : (k : ℕ) (x : A) (xs : List A) (r : List ℕ) → all k (x ∷ xs) ++ r ≡ text k x ++ (all (suc k) xs ++ r)
  more_is k x xs r = ap (λ t. t ++ r) (more k x xs) ∙ append_assoc (text k x) (all (suc k) xs) r

  rest_fits : (k : ℕ) (xs : List A) (r : List ℕ) → Fits r → Fits (all k xs ++ r)
  rest_fits k [] r h = subst Fits (sym (none_is k r)) h
  rest_fits k (x ∷ xs) r h = subst Fits (sym (more_is k x xs r)) (fits k x _)

  same_more : (x y : A) (xs ys : List A) (r q : List ℕ) → x ≡ y → (xs ≡ ys) × (r ≡ q) → (x ∷ xs ≡ y ∷ ys) × (r ≡ q)
  same_more x y xs ys r q h s = (ap (λ z. z ∷ xs) h ∙ ap (λ zs. y ∷ zs) (s.0), s.1)

  pub read_all : (k : ℕ) (xs ys : List A) (r q : List ℕ) → begins r ≡ false → begins q ≡ false → Fits r → Fits q → all k xs ++ r ≡ all k ys ++ q → (xs ≡ ys) × (r ≡ q)
  read_all k [] [] r q br bq fr fq e = (refl, sym (none_is k r) ∙ e ∙ none_is k q)
  read_all k [] (y ∷ ys) r q br bq fr fq e = absurd (apart_by begins r _ br (begun k y _) (sym (none_is k r) ∙ e ∙ more_is k y ys q))
  read_all k (x ∷ xs) [] r q br bq fr fq e = absurd (apart_by begins q _ bq (begun k x _) (sym (none_is k q) ∙ sym e ∙ more_is k x xs r))
  read_all k (x ∷ xs) (y ∷ ys) r q br bq fr fq e =
      let s = read k x y (all (suc k) xs ++ r) (all (suc k) ys ++ q) (rest_fits (suc k) xs r fr) (rest_fits (suc k) ys q fq) (sym (more_is k x xs r) ∙ e ∙ more_is k y ys q) in
      same_more x y xs ys r q (s.0) (read_all (suc k) xs ys r q br bq fr fq (s.1))
