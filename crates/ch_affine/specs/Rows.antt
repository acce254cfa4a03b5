-- A system: forms that are to be at least 0, over a box of integer points.
use Rattle.std.specs.Prelude.{ℕ, ℤ, pos, ◌≡◌, ◌≤◌, ◌≤ℤ◌, Bool, true, false, ◌&&◌, int_le, List, [], ◌∷◌, length}
use Rattle.std.specs.List.{All, list_all}
use Rattle.ch_affine.specs.Form.{Form}
use Rattle.ch_affine.specs.Affine.{IsAtMost, value}
use Rattle.ch_affine.specs.Limits.{most_variables, largest_end}
use Rattle.ch_affine.specs.declared.system.Range.{Range}

pub record Rows : Type 0 where
  pub vars : ℕ
  pub rows : List Form
  pub boxes : List Range

abbrev pub system : ℕ → List Form → List Range → Rows
system vars rows boxes = record { vars = vars; rows = rows; boxes = boxes }

-- a range has at least one number, and ends of magnitude at most 2^54
pub record IsBox (b : Range) : Type 0 where
  pub low : IsAtMost largest_end b.low
  pub high : IsAtMost largest_end b.high
  pub some : b.low ≤ℤ b.high

-- at most 4,096 variables, a coefficient of each row for each, and a range for each
pub record IsSystem (s : Rows) : Type 0 where
  pub few : s.vars ≤ most_variables
  pub rows : All (λ f. length f.coefs ≡ s.vars) s.rows
  pub boxes : length s.boxes ≡ s.vars
  pub each : All IsBox s.boxes

-- the point has one number for each range, which lies in it
abbrev pub lies_in : List Range → List ℤ → Bool
lies_in [] [] = true
lies_in [] (x ∷ point) = false
lies_in (b ∷ boxes) [] = false
lies_in (b ∷ boxes) (x ∷ point) = int_le b.low x && int_le x b.high && lies_in boxes point

-- each row is at least 0 at the point
abbrev pub all_hold : List Form → List ℤ → Bool
all_hold rows point = list_all (λ f. int_le (pos 0) (value f point)) rows

abbrev pub holds : Rows → List ℤ → Bool
holds s point = lies_in s.boxes point && all_hold s.rows point
