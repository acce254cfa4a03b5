-- Values of forms of one variable, and points that lie in ranges.
use Rattle.std.proofs.Common.{◌≡◌, ◌≢◌, refl, ap, ℕ, zero, suc, ◌<◌, ◌≤◌, ℤ, pos, ◌+ℤ◌, ◌-ℤ◌, ◌*ℤ◌, ◌≤ℤ◌, int_le, true, List, [], ◌∷◌, ◌++◌, length, get_or, set, arith}
use Rattle.std.proofs.lemmas.Int.{ints}
use Rattle.std.proofs.lemmas.Bool.{and_parts, and_from, both_ways}
use Rattle.ch_affine.specs.Affine.{dot}
use Rattle.ch_affine.specs.Rows.{lies_in}
use Rattle.ch_affine.specs.declared.system.Range.{Range}
use Rattle.ch_affine.proofs.Integers.{times_zero, times_plus}
use Rattle.ch_space.specs.Built.{zeros}

zero_times : (x : ℤ) → pos 0 *ℤ x ≡ pos 0
zero_times x = omega (arith, ints)

one_times : (x : ℤ) → pos 1 *ℤ x ≡ x
one_times x = omega (arith, ints)

dot_zeros : (n : ℕ) (xs : List ℤ) → dot (zeros n) xs ≡ pos 0
dot_zeros zero xs = refl
dot_zeros (suc n) [] = refl
dot_zeros (suc n) (x ∷ xs) = omega (arith, ints, dot_zeros n xs)

pub length_zeros : (n : ℕ) → length (zeros n) ≡ n
length_zeros zero = refl
length_zeros (suc n) = ap suc (length_zeros n)

pub zero_at : (n k : ℕ) → get_or (zeros n) k (pos 0) ≡ pos 0
zero_at zero k = refl
zero_at (suc n) zero = refl
zero_at (suc n) (suc k) = zero_at n k

-- the value of one variable
pub dot_unit : (before after : ℕ) (xs : List ℤ) → dot (zeros before ++ pos 1 ∷ zeros after) xs ≡ get_or xs before (pos 0)
dot_unit zero after [] = refl
dot_unit zero after (x ∷ xs) = omega (arith, ints, dot_zeros after xs)
dot_unit (suc before) after [] = refl
dot_unit (suc before) after (x ∷ xs) = omega (arith, ints, dot_unit before after xs)

-- the coefficient of one variable
pub dot_pick : (cs : List ℤ) (before after : ℕ) → dot cs (zeros before ++ pos 1 ∷ zeros after) ≡ get_or cs before (pos 0)
dot_pick [] before after = refl
dot_pick (c ∷ cs) zero after = omega (arith, ints, nothing cs after, times_one c)
  where
    times_one : (c : ℤ) → c *ℤ pos 1 ≡ c
    times_one c = omega (arith, ints)

    nothing : (cs : List ℤ) (n : ℕ) → dot cs (zeros n) ≡ pos 0
    nothing [] n = refl
    nothing (c ∷ cs) zero = refl
    nothing (c ∷ cs) (suc n) = omega (arith, ints, nothing cs n, times_zero c)
dot_pick (c ∷ cs) (suc before) after = omega (arith, ints, dot_pick cs before after, times_zero c)

pub dot_nothing : (cs : List ℤ) (n : ℕ) → dot cs (zeros n) ≡ pos 0
dot_nothing [] n = refl
dot_nothing (c ∷ cs) zero = refl
dot_nothing (c ∷ cs) (suc n) = omega (arith, ints, dot_nothing cs n, times_zero c)

pub unit_same : (before after k : ℕ) → k ≡ before → get_or (zeros before ++ pos 1 ∷ zeros after) k (pos 0) ≡ pos 1
unit_same zero after zero e = refl
unit_same zero after (suc k) e = absurd (omega arith)
unit_same (suc before) after zero e = absurd (omega arith)
unit_same (suc before) after (suc k) e = unit_same before after k (omega arith)

pub unit_other : (before after k : ℕ) → k ≢ before → get_or (zeros before ++ pos 1 ∷ zeros after) k (pos 0) ≡ pos 0
unit_other zero after zero e = absurd (e refl)
unit_other zero after (suc k) e = zero_at after k
unit_other (suc before) after zero e = refl
unit_other (suc before) after (suc k) e = unit_other before after k (λ f. e (ap suc f))

-- a point with one other value
pub dot_set : (cs xs : List ℤ) (k : ℕ) (v : ℤ) → k < length xs → dot cs (set xs k v) ≡ dot cs xs +ℤ get_or cs k (pos 0) *ℤ (v -ℤ get_or xs k (pos 0))
dot_set [] xs k v l = omega (arith, ints)
dot_set (c ∷ cs) [] k v l = absurd (omega arith)
dot_set (c ∷ cs) (x ∷ xs) zero v l = let t = times_plus c x (v -ℤ x) in let e : x +ℤ (v -ℤ x) ≡ v = omega (arith, ints) in let s = ap (λ z. c *ℤ z) e in omega (arith, ints)
dot_set (c ∷ cs) (x ∷ xs) (suc k) v l = omega (arith, ints, dot_set cs xs k v (omega arith))

pub dot_set_past : (cs xs : List ℤ) (k : ℕ) (v : ℤ) → length cs ≤ k → dot cs (set xs k v) ≡ dot cs xs
dot_set_past [] xs k v l = refl
dot_set_past (c ∷ cs) [] k v l = refl
dot_set_past (c ∷ cs) (x ∷ xs) zero v l = absurd (omega arith)
dot_set_past (c ∷ cs) (x ∷ xs) (suc k) v l = ap (λ z. c *ℤ x +ℤ z) (dot_set_past cs xs k v (omega arith))

le_from : (a b : ℤ) → int_le a b ≡ true → a ≤ℤ b
le_from a b e = grind (arith, ints)

pub le_to : (a b : ℤ) → a ≤ℤ b → int_le a b ≡ true
le_to a b e = grind (arith, ints)

-- a number lies in a range
pub record IsWithin (b : Range) (x : ℤ) : Type 0 where
  pub least : b.low ≤ℤ x
  pub most : x ≤ℤ b.high

pub lies_length : (boxes : List Range) (xs : List ℤ) → lies_in boxes xs ≡ true → length xs ≡ length boxes
lies_length [] [] e = refl
lies_length [] (x ∷ xs) e = absurd (both_ways _ refl e)
lies_length (b ∷ boxes) [] e = absurd (both_ways _ refl e)
lies_length (b ∷ boxes) (x ∷ xs) e = ap suc (lies_length boxes xs (and_parts _ _ e).1)

pub lies_at : (boxes : List Range) (xs : List ℤ) (k : ℕ) (d : Range) → lies_in boxes xs ≡ true → k < length boxes → IsWithin (get_or boxes k d) (get_or xs k (pos 0))
lies_at [] xs k d e l = absurd (omega arith)
lies_at (b ∷ boxes) [] k d e l = absurd (both_ways _ refl e)
lies_at (b ∷ boxes) (x ∷ xs) zero d e l =
    let r = and_parts _ _ (and_parts _ _ e).0 in
    record { least = le_from b.low x r.0; most = le_from x b.high r.1 }
lies_at (b ∷ boxes) (x ∷ xs) (suc k) d e l = lies_at boxes xs k d (and_parts _ _ e).1 (omega arith)

pub lies_by : (boxes : List Range) (xs : List ℤ) (d : Range) → length xs ≡ length boxes → ((k : ℕ) → k < length boxes → IsWithin (get_or boxes k d) (get_or xs k (pos 0))) → lies_in boxes xs ≡ true
lies_by [] [] d e h = refl
lies_by [] (x ∷ xs) d e h = absurd (omega arith)
lies_by (b ∷ boxes) [] d e h = absurd (omega arith)
lies_by (b ∷ boxes) (x ∷ xs) d e h =
    let w = h 0 (omega arith) in
    and_from _ _ (and_from _ _ (le_to b.low x w.least) (le_to x b.high w.most)) (lies_by boxes xs d (omega arith) (λ k l. h (suc k) (omega arith)))
