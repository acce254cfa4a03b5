-- The trial of a point, by its mark: one more than the number of the first trial at that point, or 0 where there is none.
use Rattle.std.specs.Prelude.{◌≡◌, ℕ, suc, ◌≤◌, true, List, [], ◌∷◌, ◌++◌, length, slice_index, if◌then◌else◌}
use Rattle.std.specs.List.{list_any, All, IsDistinct}
use Rattle.ch_grid.specs.Points.{count, is_point, number}
use Rattle.ch_rank.specs.Moves.{Point, same_point}

abbrev pub mark_from : ℕ → List Point → Point → ℕ
mark_from t [] p = 0
mark_from t (q ∷ qs) p = if same_point q p then suc t else mark_from (suc t) qs p

abbrev pub mark : List Point → Point → ℕ
mark ps p = mark_from 0 ps p

-- the points that have a trial, in order, on a grid of these sizes
pub record Listed : Type 0 where
  pub sizes : List ℕ
  pub points : List Point

abbrev pub with_point : List Point → Point → List Point
with_point ps p = if list_any (same_point p) ps then ps else ps ++ p ∷ []

-- each cell of the table has the mark of its point
pub record IsTable (sizes : List ℕ) (points : List Point) (table : List ℕ) : Type 0 where
  pub long : length table ≡ count sizes
  pub each : (p : Point) → is_point sizes p ≡ true → slice_index table (number sizes p) ≡ mark points p

-- no point has two trials, and there is memory for each point of the grid
pub record AreTrials (sizes : List ℕ) (points : List Point) (table : List ℕ) (capacity : ℕ) : Type 0 where
  pub dims : length sizes ≤ 6
  pub few : count sizes ≤ 65536
  pub some : All (λ n. 1 ≤ n) sizes
  pub in_grid : All (λ p. is_point sizes p ≡ true) points
  pub apart : IsDistinct same_point points
  pub room : count sizes ≤ capacity
  pub is_table : IsTable sizes points table
