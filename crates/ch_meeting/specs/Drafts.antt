-- A system while it is made, and what its rows say of points.
use Rattle.std.specs.Prelude.{◌≡◌, ◌≤◌, ◌↔◌, ℕ, ℤ, List, length, take, drop, IsTrue, Option, Some, None, ◌++◌}
use Rattle.std.specs.List.{All}
use Rattle.ch_affine.specs.Form.{Form}
use Rattle.ch_affine.specs.Rows.{IsBox, Rows, all_hold, lies_in, system}
use Rattle.ch_meeting.specs.declared.draft.Draft.{Draft}
use Rattle.ch_space.specs.Following.{UpTo}

-- so many numbers of a point, from one on
abbrev pub part : ℕ → ℕ → List ℤ → List ℤ
part start count z = take count (drop start z)

-- each row has a coefficient for each range, and there are not too many ranges
pub record IsDraft (d : Draft) : Type 0 where
  pub few : length d.boxes ≤ 4096
  pub each : All IsBox d.boxes
  pub rows : All (λ f. length f.coefs ≡ length d.boxes) d.rows

-- The new draft has the same ranges, and rows that hold exactly at those points of them where the old ones do that have the property.
pub record Narrows (old new : Draft) (P : List ℤ → Type 0) : Type 0 where
  pub boxes : new.boxes ≡ old.boxes
  pub rows : All (λ f. length f.coefs ≡ length old.boxes) new.rows
  pub exact : (z : List ℤ) → IsTrue (lies_in old.boxes z)
      → IsTrue (all_hold new.rows z) ↔ (IsTrue (all_hold old.rows z) × P z)
  -- the old rows stand before the others
  pub added : List Form
  pub behind : new.rows ≡ old.rows ++ added

-- the system of the ranges and rows
abbrev pub system_of : Draft → Rows
system_of d = system (length d.boxes) d.rows d.boxes

-- the point lies in the ranges, and all rows hold there
pub record Fits (d : Draft) (z : List ℤ) : Type 0 where
  pub inside : IsTrue (lies_in d.boxes z)
  pub holds : IsTrue (all_hold d.rows z)

-- the least point that fits; None where none does
abbrev pub IsLeastFit : Draft → Option (List ℤ) → Type 0
IsLeastFit d None = (z : List ℤ) → Fits d z → ⊥
IsLeastFit d (Some point) = Fits d point × ((z : List ℤ) → Fits d z → UpTo point z)

-- no point fits
abbrev pub NoneFits : Draft → Type 0
NoneFits d = (z : List ℤ) → Fits d z → ⊥
