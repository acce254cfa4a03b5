-- Loop values that change places.
use Rattle.std.specs.Prelude.{◌≡◌, ℕ, suc, ◌-◌, ◌<◌, ℤ, pos, Bool, true, false, if◌then◌else◌, nat_lt, List, [], ◌∷◌, length, map, slice_index_or}
use Rattle.ch_moved.specs.Room.{origin_range}
use Rattle.std.specs.List.{range_with_len}
use Rattle.std.specs.Ordering.{int_eq}
use Rattle.ch_affine.specs.Form.{Form}
use Rattle.ch_affine.specs.declared.system.Range.{Range}
use Rattle.ch_moved.specs.Arguments.{natural}
use Rattle.ch_space.specs.Built.{unit}

-- the place of the first such number, and the length where there is none
abbrev pub place : ℤ → List ℤ → ℕ
place x [] = 0
place x (y ∷ ys) = if int_eq x y then 0 else suc (place x ys)

abbrev pub source_by : Bool → List ℤ → ℕ → ℕ
source_by true order k = natural (slice_index_or order k (pos 0)) - 1
source_by false order k = k

-- which old level, counted from 0, comes to that level
abbrev pub source : List ℤ → ℕ → ℕ
source order k = source_by (nat_lt k (length order)) order k

abbrev pub target_by : Bool → List ℤ → ℕ → ℕ
target_by true order k = place (pos (suc k)) order
target_by false order k = k

-- to which level that old level, counted from 0, goes
abbrev pub target : List ℤ → ℕ → ℕ
target order k = target_by (nat_lt k (length order)) order k

-- the values, at each place that of the place which `from` names
abbrev pub turned : (ℕ → ℕ) → List ℤ → List ℤ
turned from xs = map (λ k. slice_index_or xs (from k) (pos 0)) (range_with_len 0 (length xs))

-- the ranges of such values
abbrev pub turned_boxes : (ℕ → ℕ) → List Range → List Range
turned_boxes from boxes = map (λ k. slice_index_or boxes (from k) origin_range) (range_with_len 0 (length boxes))

-- the forms of n values, each that of the one variable which `to` names
abbrev pub turned_forms : (ℕ → ℕ) → ℕ → List Form
turned_forms to n = map (λ k. unit (to k) (n - 1 - to k)) (range_with_len 0 n)

-- The first d places change among themselves, and back.
pub record Turns (d : ℕ) (from to : ℕ → ℕ) : Type 0 where
  pub below : (k : ℕ) → k < d → from k < d
  pub below_too : (k : ℕ) → k < d → to k < d
  pub there : (k : ℕ) → from (to k) ≡ k
  pub back : (k : ℕ) → to (from k) ≡ k
