-- Instances counted value by value.
use Rattle.std.specs.Prelude.{◌≡◌, ◌≤ℤ◌, ◌<ℤ◌, ℕ, zero, suc, ℤ, IsTrue, Option, Some, None, List, [], ◌∷◌, ◌++◌, drop, length, map, take}
use Rattle.std.specs.List.{filter}
use Rattle.ch_affine.specs.Rows.{Rows}
use Rattle.ch_affine.specs.declared.system.Range.{Range}
use Rattle.ch_poly.specs.Points.{begins_some, box_points}
use Rattle.ch_space.specs.Following.{single}

-- of the vectors over the first n ranges that begin with the front, how many some point of the system begins with
abbrev pub count_from : Rows → ℕ → List ℤ → ℕ
count_from s n front = length (filter (begins_some s) (map (λ xs. front ++ xs) (box_points (drop (length front) (take n s.boxes)))))

-- the least value from this one on with which some point goes on behind the front
abbrev pub IsNextValue : Rows → List ℤ → ℤ → Option ℤ → Type 0
IsNextValue s front from None = (x : ℤ) → from ≤ℤ x → IsTrue (begins_some s (front ++ x ∷ [])) → ⊥
IsNextValue s front from (Some v) =
    (from ≤ℤ v) × IsTrue (begins_some s (front ++ v ∷ []))
    × ((x : ℤ) → from ≤ℤ x → x <ℤ v → IsTrue (begins_some s (front ++ x ∷ [])) → ⊥)

-- the value isn't below range k
abbrev pub IsLow : List Range → ℕ → ℤ → Type 0
IsLow [] k x = ⊥
IsLow (b ∷ boxes) zero x = b.low ≤ℤ x
IsLow (b ∷ boxes) (suc k) x = IsLow boxes k x

-- what is left of range k from some value on
abbrev pub IsRest : List Range → ℕ → Range → Type 0
IsRest [] k r = ⊥
IsRest (b ∷ boxes) zero r = (b.low ≤ℤ r.low) × (r.low ≤ℤ r.high) × (r.high ≡ b.high)
IsRest (b ∷ boxes) (suc k) r = IsRest boxes k r

-- the ranges, the first of them those of the values of the front alone, and then this one
abbrev pub cut : List ℤ → Range → List Range → List Range
cut front r boxes = map single front ++ r ∷ drop (suc (length front)) boxes
