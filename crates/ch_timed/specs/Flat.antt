-- What steps do to flat arrays, which are told by their extents: those of a nest, or those of a nest and then buffers.
use Rattle.std.specs.Prelude.{ℕ, ℤ, pos, List, [], ◌∷◌, ◌++◌, map, replicate, slice_set, slice_index_or, IsTrue}
use Rattle.ch_nest.specs.Arrays.{total, within_array}
use Rattle.ch_timed.specs.declared.element.Cell.{Cell}
use Rattle.ch_timed.specs.Conflict.{cell_of, reads, written}
use Rattle.ch_timed.specs.Do.{Store}
use Rattle.ch_nest.specs.Arrays.{place_in}
use Rattle.ch_nest.specs.Run.{expr_value, place}
use Rattle.ch_timed.specs.Members.{Each}
use Rattle.ch_timed.specs.Order.{do_all}
use Rattle.ch_timed.specs.declared.element.Element.{Element}
use Rattle.ch_timed.specs.Timed.{Step, step}

abbrev pub execute_flat : List (List ℕ) → Step → List ℤ → List ℤ
execute_flat extents s cells =
    slice_set cells (place extents s.body.write s.identity.iters)
    (expr_value extents s.identity.iters cells s.body.right)

-- the elements of an ascending list, executed in order
abbrev pub done_flat : List (List ℕ) → List Element → List ℤ → List ℤ
done_flat extents list = do_all (execute_flat extents) (map step list)

-- the cells of arrays, and behind them those of buffers as they start: each is 0
abbrev pub with_buffers : List (List ℕ) → List ℤ → List ℤ
with_buffers buffers cells = cells ++ replicate (total buffers) (pos 0)

abbrev pub place_of : List (List ℕ) → Cell → ℕ
place_of extents c = place_in extents c.array c.subs

-- what the cells hold in flat arrays
abbrev pub look : List (List ℕ) → List ℤ → Store
look extents cells c = slice_index_or cells (place_of extents c) (pos 0)

abbrev pub AllInside : List (List ℕ) → List Cell → Type 0
AllInside extents [] = Unit {0}
AllInside extents (c ∷ cs) = IsTrue (within_array extents c.array c.subs) × AllInside extents cs

-- each cell that the step accesses is in its array
pub record IsInside (extents : List (List ℕ)) (s : Step) : Type 0 where
  pub writes : IsTrue (within_array extents (written s).array (written s).subs)
  pub reads : AllInside extents (map (cell_of s.identity.iters) (reads s.body.right))

-- each cell that a step of the list accesses is in its array
abbrev pub StaysInside : List (List ℕ) → List Element → Type 0
StaysInside extents list = Each (IsInside extents) (map step list)
