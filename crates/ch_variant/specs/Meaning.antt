-- What of a program's meaning its changes keep: what it leaves in the declared arrays.
use Rattle.std.specs.Prelude.{◌≡◌, ℕ, ℤ, List, [], ◌++◌, length, take}
use Rattle.ch_nest.specs.Arrays.{extents_of, total}
use Rattle.ch_nest.specs.LoopNest.{LoopNest}
use Rattle.ch_nest.specs.Run.{run}
use Rattle.ch_order.specs.Agreement.{KeepsArrays}
use Rattle.ch_space.specs.Listed.{Listed}
use Rattle.ch_timed.specs.declared.element.Element.{Element}
use Rattle.ch_timed.specs.Flat.{done_flat, with_buffers}
use Rattle.ch_timed.specs.Start.{start}

-- The second program leaves the same in the arrays that the first one declares, and its buffers are behind these.
abbrev pub Keeps : Listed → Listed → Type 0
Keeps old new =
    (arrays : List (List ℕ)) → length arrays ≡ old.arrays
    → KeepsArrays arrays old.list old.temps new.list new.temps

-- a list with these buffers leaves in the arrays of a nest what the nest's own list leaves there
abbrev pub KeepsNest : LoopNest → List Element → List (List ℕ) → Type 0
KeepsNest nest list buffers = KeepsArrays (extents_of nest.arrays) (start nest) [] list buffers

-- From each content of the arrays, the buffers holding 0, the list leaves in the arrays what a run of the nest does.
abbrev pub RunsNest : LoopNest → List Element → List (List ℕ) → Type 0
RunsNest nest list buffers =
    (cells : List ℤ) → length cells ≡ total (extents_of nest.arrays)
    → run nest cells
    ≡ take (length cells) (done_flat (extents_of nest.arrays ++ buffers) list (with_buffers buffers cells))
