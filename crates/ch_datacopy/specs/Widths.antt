-- How far the cells of uses stand apart behind one prefix.
use Rattle.std.specs.Prelude.{◌≡◌, ◌≤◌, ◌<◌, ◌≤ℤ◌, ◌-ℤ◌, ◌+◌, ◌^◌, ℕ, ℤ, pos, int_lt, unsigned_abs, if◌then◌else◌, IsTrue, List, ◌++◌, length, slice_index_or}
use Rattle.std.proofs.Common.{◌⊎◌}
use Rattle.std.specs.List.{All}
use Rattle.ch_affine.specs.Affine.{IsAtMost}
use Rattle.ch_affine.specs.Rows.{lies_in}
use Rattle.ch_affine.specs.declared.system.Range.{Range}
use Rattle.ch_datacopy.specs.declared.cells.Cells.{Cells}
use Rattle.ch_datacopy.specs.Pairs.{IsFramed, IsPairOf, used}
use Rattle.ch_timed.specs.Members.{In}

-- no point lies in the ranges
abbrev pub HaveNone : List Range → Type 0
HaveNone rs = (xs : List ℤ) → IsTrue (lies_in rs xs) → ⊥

-- there is room for a pair, and the cells are small
pub record IsRoomy (around cells : ℕ) (u : Cells) : Type 0 where
  pub framed : IsFramed around cells u
  pub few : u.levels + u.hidden ≤ 1024
  pub near : (prefix cell : List ℤ) → length prefix ≡ around → In (prefix ++ cell) (used u)
      → All (IsAtMost (2 ^ 18)) cell

abbrev pub wider : ℕ → ℤ → ℕ
wider wide greatest = if int_lt (pos wide) greatest then unsigned_abs greatest else wide

-- some two cells behind one prefix differ by so much in subscript k
pub record AreApart (around cells k : ℕ) (us vs : List Cells) (wide : ℕ) : Type 0 where
  pub first : Cells
  pub second : Cells
  pub first_is : In first us
  pub second_is : In second vs
  pub prefix : List ℤ
  pub first_cell : List ℤ
  pub second_cell : List ℤ
  pub pair : IsPairOf around cells first second prefix first_cell second_cell
  pub differ : slice_index_or first_cell k (pos 0) -ℤ slice_index_or second_cell k (pos 0) ≡ pos wide

-- Behind one prefix subscript k of a cell of the first uses is at most so much greater than that of a cell of the others; 0, or some
-- two are so far apart.
pub record IsWidth (around cells k : ℕ) (us vs : List Cells) (wide : ℕ) : Type 0 where
  pub enough : (u v : Cells) (prefix first second : List ℤ) → In u us → In v vs
      → IsPairOf around cells u v prefix first second
      → (slice_index_or first k (pos 0) -ℤ slice_index_or second k (pos 0)) ≤ℤ pos wide
  pub needed : (wide ≡ 0) ⊎ AreApart around cells k us vs wide

-- there is an extent for each subscript, one more than the width
pub record AreWidths (around cells : ℕ) (us : List Cells) (extents : List ℕ) : Type 0 where
  pub count : length extents ≡ cells
  pub each : (k : ℕ) → k < cells
      → (wide : ℕ) × (slice_index_or extents k 0 ≡ wide + 1) × IsWidth around cells k us us wide
