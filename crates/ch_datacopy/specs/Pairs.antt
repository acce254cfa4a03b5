-- Cells of two uses behind one prefix, as a system: how far they stand apart.
use Rattle.std.specs.Prelude.{◌≡◌, ◌-ℤ◌, ◌≤ℤ◌, ℕ, ◌+◌, ℤ, pos, negsuc, Option, Some, None, List, [], ◌∷◌, ◌++◌, length, map, take, drop, slice_index_or}
use Rattle.std.specs.List.{All}
use Rattle.ch_affine.specs.Affine.{form}
use Rattle.ch_affine.specs.Form.{Form}
use Rattle.ch_affine.specs.Rows.{Rows, system}
use Rattle.ch_affine.specs.declared.system.Range.{Range}
use Rattle.ch_datacopy.specs.declared.cells.Cells.{Cells}
use Rattle.ch_datacopy.specs.Cells.{at_one, kept_row}
use Rattle.ch_moved.specs.Changed.{fronts}
use Rattle.ch_space.specs.Built.{zeros}
use Rattle.ch_space.specs.Following.{shared}
use Rattle.ch_timed.specs.Members.{In}

-- the values around the loop with a cell behind them, in lexicographic order
abbrev pub used : Cells → List (List ℤ)
used u = fronts u.levels u.system

-- ranges that both have
abbrev pub all_shared : List Range → List Range → List Range
all_shared [] qs = []
all_shared (r ∷ rs) [] = []
all_shared (r ∷ rs) (q ∷ qs) = shared r q ∷ all_shared rs qs

-- a row of the second: its subscripts stand behind those of the first, its hidden variables behind the first one's
abbrev pub second_row : ℕ → ℕ → ℕ → Form → Form
second_row around cells hidden f = kept_row ((around + cells) + cells) hidden 0 (kept_row around cells 0 f)

abbrev pub pair_rows : ℕ → ℕ → Cells → Cells → List Form
pair_rows around cells u v =
    map (kept_row (around + cells) cells v.hidden) u.system.rows
    ++ map (second_row around cells u.hidden) v.system.rows

-- the ranges of the prefix, of the first cell, of the second cell, and of the hidden variables of both
abbrev pub pair_boxes : ℕ → ℕ → Cells → Cells → List Range
pair_boxes around cells u v =
    ((all_shared (take around u.system.boxes) (take around v.system.boxes)
    ++ drop around (take (around + cells) u.system.boxes))
    ++ drop around (take (around + cells) v.system.boxes))
    ++ (drop (around + cells) u.system.boxes ++ drop (around + cells) v.system.boxes)

abbrev pub pair_system : ℕ → ℕ → Cells → Cells → Rows
pair_system around cells u v =
    system (((around + cells) + cells) + (u.hidden + v.hidden)) (pair_rows around cells u v) (pair_boxes around cells u v)

-- how much greater subscript k of the first cell is, which has so many after it
abbrev pub difference : ℕ → ℕ → ℕ → ℕ → Form
difference around k after hidden =
    form (((zeros around ++ at_one k (pos 1) after) ++ at_one k (negsuc 0) after) ++ zeros hidden) (pos 0)

-- the system has so many values around, subscripts and hidden variables
pub record IsFramed (around cells : ℕ) (u : Cells) : Type 0 where
  pub levels : u.levels ≡ around + cells
  pub boxes : length u.system.boxes ≡ u.levels + u.hidden
  pub rows : All (λ f. length f.coefs ≡ u.levels + u.hidden) u.system.rows

-- cells of both behind one prefix
pub record IsPairOf (around cells : ℕ) (u v : Cells) (prefix first second : List ℤ) : Type 0 where
  pub prefix_long : length prefix ≡ around
  pub first_long : length first ≡ cells
  pub second_long : length second ≡ cells
  pub in_first : In (prefix ++ first) (used u)
  pub in_second : In (prefix ++ second) (used v)

-- the greatest difference of subscript k; None where they have no prefix in common
abbrev pub IsWidest : ℕ → ℕ → ℕ → Cells → Cells → Option ℤ → Type 0
IsWidest around cells k u v None =
    (prefix first second : List ℤ) → IsPairOf around cells u v prefix first second → ⊥
IsWidest around cells k u v (Some g) =
    ((prefix first second : List ℤ) → IsPairOf around cells u v prefix first second
    → (slice_index_or first k (pos 0) -ℤ slice_index_or second k (pos 0)) ≤ℤ g)
    × ((prefix : List ℤ) × (first : List ℤ) × (second : List ℤ) × IsPairOf around cells u v prefix first second
    × (slice_index_or first k (pos 0) -ℤ slice_index_or second k (pos 0) ≡ g))
