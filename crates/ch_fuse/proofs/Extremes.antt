-- The greatest and the least of some numbers.
use Rattle.std.proofs.Common.{◌≡◌, refl, sym, ap, ◌∙◌, ℕ, ◌+◌, ◌<◌, ℤ, pos, ◌≤ℤ◌, Bool, true, false, Option, Some, None, MatchOption, List, [], ◌∷◌, map, drop, filter, get_or, length, inl, inr, arith}
use Rattle.std.specs.Int.{int_max, int_min}
use Rattle.std.specs.List.{fold}
use Rattle.std.proofs.lemmas.Int.{int_max_is, int_min_is, ints, by_lt_z}
use Rattle.std.proofs.lemmas.List.{at_drop_more}
use Rattle.ch_fuse.specs.Fused.{greatest, least}
use Rattle.ch_timed.specs.Members.{In}

pub greatest_some : (xs : List ℤ) → pos 0 ≤ℤ greatest xs
greatest_some [] = omega (arith, ints)
greatest_some (x ∷ xs) = omega (arith, ints, int_max_is x (greatest xs), greatest_some xs)

pub greatest_bounds : (xs : List ℤ) (x : ℤ) → In x xs → x ≤ℤ greatest xs
greatest_bounds [] x i = absurd i
greatest_bounds (y ∷ ys) x (inl e) = omega (arith, ints, int_max_is y (greatest ys), e)
greatest_bounds (y ∷ ys) x (inr i) = omega (arith, ints, int_max_is y (greatest ys), greatest_bounds ys x i)

pub none_greater : (xs : List ℤ) → int_max (pos 0) (greatest xs) ≡ greatest xs
none_greater xs = omega (arith, ints, int_max_is (pos 0) (greatest xs), greatest_some xs)

max_regroup : (g x r : ℤ) → int_max (int_max x g) r ≡ int_max g (int_max x r)
max_regroup g x r = omega (arith, ints, int_max_is x g, int_max_is (int_max x g) r, int_max_is x r, int_max_is g (int_max x r))

module _ (t : List ℤ → Bool) (f : List ℤ → ℤ) (pss : List (List ℤ)) (k : ℕ) (l : k < length pss) where
  taken : (F : List ℤ → ℤ) → t (get_or pss k []) ≡ true → F (map f (filter t (drop k pss))) ≡ F (f (get_or pss k []) ∷ map f (filter t (drop (k + 1) pss)))
  taken F e = at_drop_more (λ z. F (map f (filter t z))) pss k [] l ∙ rw e refl

  left : (F : List ℤ → ℤ) → t (get_or pss k []) ≡ false → F (map f (filter t (drop k pss))) ≡ F (map f (filter t (drop (k + 1) pss)))
  left F e = at_drop_more (λ z. F (map f (filter t z))) pss k [] l ∙ rw e refl

  -- the greatest so far and the others
  pub greatest_taken : (g next whole : ℤ) → t (get_or pss k []) ≡ true → next ≡ int_max (f (get_or pss k [])) g → int_max g (greatest (map f (filter t (drop k pss)))) ≡ whole
      → int_max next (greatest (map f (filter t (drop (k + 1) pss)))) ≡ whole
  greatest_taken g next whole e n h =
      ap (λ z. int_max z (greatest (map f (filter t (drop (k + 1) pss))))) n ∙ max_regroup g (f (get_or pss k [])) (greatest (map f (filter t (drop (k + 1) pss))))
      ∙ sym (taken (λ z. int_max g (greatest z)) e) ∙ h

  pub greatest_left : (g whole : ℤ) → t (get_or pss k []) ≡ false → int_max g (greatest (map f (filter t (drop k pss)))) ≡ whole → int_max g (greatest (map f (filter t (drop (k + 1) pss)))) ≡ whole
  greatest_left g whole e h = sym (left (λ z. int_max g (greatest z)) e) ∙ h

pub least_in : (x : ℤ) (xs : List ℤ) → In (fold int_min x xs) (x ∷ xs)
least_in x [] = inl refl
least_in x (y ∷ ys) = elim (least_in (int_min x y) ys) as (λ _. In (fold int_min (int_min x y) ys) (x ∷ y ∷ ys)) [
  | inl e ↦
      by_lt_z y x (λ l. let m : int_min x y ≡ y = omega (arith, ints, int_min_is x y) in inr (inl (sym m ∙ e)))
      (λ l. let m : int_min x y ≡ x = omega (arith, ints, int_min_is x y) in inl (sym m ∙ e))
  | inr i ↦ inr (inr i)
]

-- the least of the numbers and the least one so far, if there is one
abbrev pub least_from : Option ℕ → List ℤ → ℤ
least_from None xs = least xs
least_from (Some m) xs = fold int_min (pos m) xs

least_more : (o : Option ℕ) (x : ℤ) (n : ℕ) (xs : List ℤ) → MatchOption o (pos n ≡ x) (λ m. pos n ≡ int_min (pos m) x) → least_from o (x ∷ xs) ≡ fold int_min (pos n) xs
least_more None x n xs e = ap (λ z. fold int_min z xs) (sym e)
least_more (Some m) x n xs e = ap (λ z. fold int_min z xs) (sym e)

module _ (t : List ℤ → Bool) (f : List ℤ → ℤ) (pss : List (List ℤ)) (k : ℕ) (l : k < length pss) where
  pub least_taken : (o : Option ℕ) (n : ℕ) (whole : ℤ) → t (get_or pss k []) ≡ true → MatchOption o (pos n ≡ f (get_or pss k [])) (λ m. pos n ≡ int_min (pos m) (f (get_or pss k [])))
      → least_from o (map f (filter t (drop k pss))) ≡ whole → least_from (Some n) (map f (filter t (drop (k + 1) pss))) ≡ whole
  least_taken o n whole e m h = sym (taken t f pss k l (least_from o) e ∙ least_more o (f (get_or pss k [])) n (map f (filter t (drop (k + 1) pss))) m) ∙ h

  pub least_left : (o : Option ℕ) (whole : ℤ) → t (get_or pss k []) ≡ false → least_from o (map f (filter t (drop k pss))) ≡ whole → least_from o (map f (filter t (drop (k + 1) pss))) ≡ whole
  least_left o whole e h = sym (left t f pss k l (least_from o) e) ∙ h
