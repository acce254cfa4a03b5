-- The integer points of a system, in lexicographic order.
use Rattle.std.specs.Prelude.{ℕ, ℤ, pos, negsuc, zero, suc, ◌+ℤ◌, ◌-ℤ◌, true, false, Bool, ◌&&◌, List, [], ◌∷◌, map, Option, Some, None}
use Rattle.std.specs.List.{flat_map, filter, fold, list_any}
use Rattle.std.specs.Int.{int_max, int_min}
use Rattle.std.specs.Ordering.{int_eq}
use Rattle.ch_affine.specs.Rows.{Rows, all_hold}
use Rattle.ch_affine.specs.declared.system.Range.{Range}

-- so many numbers, upwards
abbrev pub upwards : ℕ → ℤ → List ℤ
upwards zero low = []
upwards (suc n) low = low ∷ upwards n (low +ℤ pos 1)

-- 0 for a negative number
abbrev pub natural : ℤ → ℕ
natural (pos n) = n
natural (negsuc n) = 0

-- the numbers of a range, none where its low is above its high
abbrev pub numbers : Range → List ℤ
numbers b = upwards (natural ((b.high +ℤ pos 1) -ℤ b.low)) b.low

-- the points of a box
abbrev pub box_points : List Range → List (List ℤ)
box_points [] = [] ∷ []
box_points (b ∷ bs) = flat_map (λ x. map (λ p. x ∷ p) (box_points bs)) (numbers b)

-- the points of the box at which all rows hold
abbrev pub points : Rows → List (List ℤ)
points s = filter (all_hold s.rows) (box_points s.boxes)

abbrev pub first : {A : Type 0} → List A → Option A
first [] = None
first (x ∷ xs) = Some x

-- whether the point's first values are these
abbrev pub begins : List ℤ → List ℤ → Bool
begins [] p = true
begins (x ∷ xs) [] = false
begins (x ∷ xs) (y ∷ p) = int_eq x y && begins xs p

-- the least and the greatest of some numbers
abbrev pub least_of : List ℤ → Option ℤ
least_of [] = None
least_of (z ∷ zs) = Some (fold int_min z zs)

abbrev pub greatest_of : List ℤ → Option ℤ
greatest_of [] = None
greatest_of (z ∷ zs) = Some (fold int_max z zs)

-- some point of the system begins with these values
abbrev pub begins_some : Rows → List ℤ → Bool
begins_some s xs = list_any (begins xs) (points s)
