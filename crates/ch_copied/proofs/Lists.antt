-- Members of lists that are put together, mapped and filtered.
use Rattle.std.proofs.Common.{◌≡◌, refl, sym, ap, ◌∙◌, subst, ℤ, Bool, true, false, cond, List, [], ◌∷◌, ◌++◌, take, ◌⊎◌, inl, inr}
use Rattle.std.specs.List.{filter, flat_map}
use Rattle.ch_timed.specs.Members.{Each, In}

pub in_append : {X : Type 0} (xs ys : List X) (z : X) → In z (xs ++ ys) → In z xs ⊎ In z ys
in_append [] ys z i = inr i
in_append (x ∷ xs) ys z (inl k) = inl (inl k)
in_append (x ∷ xs) ys z (inr i) = elim (in_append xs ys z i) [ inl j ↦ inl (inr j) | inr j ↦ inr j ]

pub append_left : {X : Type 0} (xs ys : List X) (z : X) → In z xs → In z (xs ++ ys)
append_left [] ys z i = absurd i
append_left (x ∷ xs) ys z (inl k) = inl k
append_left (x ∷ xs) ys z (inr i) = inr (append_left xs ys z i)

pub append_right : {X : Type 0} (xs ys : List X) (z : X) → In z ys → In z (xs ++ ys)
append_right [] ys z i = i
append_right (x ∷ xs) ys z i = inr (append_right xs ys z i)

pub in_flat : {X Y : Type 0} (f : X → List Y) (xs : List X) (y : Y) → In y (flat_map f xs) → (x : X) × (In x xs × In y (f x))
in_flat f [] y i = absurd i
in_flat f (x ∷ xs) y i = elim (in_append (f x) (flat_map f xs) y i) [
  | inl j ↦ (x, (inl refl, j))
  | inr j ↦ let r = in_flat f xs y j in (r.0, (inr r.1.0, r.1.1))
]

pub flat_in : {X Y : Type 0} (f : X → List Y) (xs : List X) (x : X) (y : Y) → In x xs → In y (f x) → In y (flat_map f xs)
flat_in f [] x y i j = absurd i
flat_in f (z ∷ zs) x y (inl k) j = append_left (f z) (flat_map f zs) y (subst (λ w. In y (f w)) (sym k) j)
flat_in f (z ∷ zs) x y (inr i) j = append_right (f z) (flat_map f zs) y (flat_in f zs x y i j)

kept_in : {X : Type 0} (b : Bool) (t : X → Bool) (x y : X) (rest : List X) → t y ≡ b → In x (cond b (y ∷ rest) rest) → ((y ≡ x) × (t y ≡ true)) ⊎ In x rest
kept_in true t x y rest e (inl k) = inl (k, e)
kept_in true t x y rest e (inr i) = inr i
kept_in false t x y rest e i = inr i

pub in_filter : {X : Type 0} (t : X → Bool) (xs : List X) (x : X) → In x (filter t xs) → In x xs × (t x ≡ true)
in_filter t [] x i = absurd i
in_filter t (y ∷ ys) x i = elim (kept_in (t y) t x y (filter t ys) refl i) [
  | inl k ↦ (inl k.0, subst (λ z. t z ≡ true) k.0 k.1)
  | inr j ↦ let r = in_filter t ys x j in (inr r.0, r.1)
]

keeps : {X : Type 0} (b : Bool) (x y : X) (rest : List X) → In x rest → In x (cond b (y ∷ rest) rest)
keeps true x y rest i = inr i
keeps false x y rest i = i

pub filter_in : {X : Type 0} (t : X → Bool) (xs : List X) (x : X) → In x xs → t x ≡ true → In x (filter t xs)
filter_in t [] x i e = absurd i
filter_in t (y ∷ ys) x (inl k) e = let f : t y ≡ true = ap t k ∙ e in rw f (inl k)
filter_in t (y ∷ ys) x (inr i) e = keeps (t y) x y (filter t ys) (filter_in t ys x i e)

-- a list with a member has a first one
pub first_member : {X : Type 0} (xs : List X) (x : X) → In x xs → (y : X) × (In y xs × In y (take 1 xs))
first_member [] x i = absurd i
first_member (y ∷ ys) x i = (y, (inl refl, inl refl))

pub in_take : {X : Type 0} (xs : List X) (x : X) → In x (take 1 xs) → In x xs
in_take [] x i = absurd i
in_take (y ∷ ys) x (inl k) = inl k
in_take (y ∷ ys) x (inr i) = absurd i

abbrev first : ℤ → List ℤ → ℤ
first d [] = d
first d (x ∷ xs) = x

abbrev rest : List ℤ → List ℤ
rest [] = []
rest (x ∷ xs) = xs

pub parts_same : (x y : ℤ) (xs ys : List ℤ) → x ∷ xs ≡ y ∷ ys → (x ≡ y) × (xs ≡ ys)
parts_same x y xs ys e = (heads, tails)
  where
    heads : x ≡ y
    heads = ap (first x) e

    tails : xs ≡ ys
    tails = ap rest e

pub not_empty : (x : ℤ) (xs : List ℤ) → [] ≡ x ∷ xs → ⊥
not_empty x xs e = cc

pub each_by : {X : Type 0} (P : X → Type 0) (xs : List X) → ((x : X) → In x xs → P x) → Each P xs
each_by P [] h = tt
each_by P (x ∷ xs) h = (h x (inl refl), each_by P xs (λ y i. h y (inr i)))
