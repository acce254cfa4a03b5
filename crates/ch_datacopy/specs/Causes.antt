-- Why the shape of a program forbids a copy: the first cause counts.
use Rattle.std.specs.Prelude.{ℕ, ◌+◌, ◌-◌, ℤ, pos, max, nat_lt, if◌then◌else◌, Option, Some, None, List, [], ◌∷◌, ◌++◌, length, map}
use Rattle.ch_copied.specs.Copied.{copied}
use Rattle.ch_copied.specs.Plans.{Plan, plan}
use Rattle.ch_copied.specs.Uses.{Transfer}
use Rattle.ch_datacopy.specs.declared.cells.Cells.{Cells}
use Rattle.ch_moved.specs.Arguments.{natural}
use Rattle.ch_moved.specs.Causes.{cause, first_of, no_level, no_piece}
use Rattle.ch_nest.specs.Arrays.{cells_in}
use Rattle.ch_nest.specs.declared.cause.Shape.{Shape}
use Rattle.ch_space.specs.Keeps.{most_instances, most_levels, most_pieces, places_of}
use Rattle.ch_space.specs.declared.piece.Piece.{Piece}
use Rattle.ch_timed.specs.declared.element.Element.{Element}
use Rattle.ch_timed.specs.Timed.{pieces}

-- the most cells of a buffer
abbrev pub most_cells : ℕ
most_cells = 65536

-- the cause, where the number is above the limit
abbrev pub above : ℕ → ℕ → ℕ → Option Shape
above code most n = if nat_lt most n then cause code (pos n) else None

-- how many levels the deepest piece has
abbrev pub deepest : List (List ℤ) → ℕ
deepest [] = 0
deepest (ps ∷ more) = max (length ps - 1) (deepest more)

-- C7, C8, C9 and C11 of the list with the copy: too many pieces, too deep, a buffer of too many cells, too many elements
abbrev pub too_large : List Element → List ℕ → List (Option Shape)
too_large new extents =
    above 7 most_pieces (length (pieces new)) ∷ above 8 most_levels (deepest (pieces new)) ∷ above 9 most_cells (cells_in extents)
    ∷ above 11 most_instances (length new) ∷ []

-- C10: the array isn't declared, or the group has no access of it
abbrev pub not_there : Option Shape
not_there = cause 10 (pos 0)

abbrev pub of_transfers : List Transfer → List Element → List ℕ → List (Option Shape)
of_transfers [] new extents = not_there ∷ []
of_transfers (t ∷ ts) new extents = too_large new extents

abbrev pub of_plan : Plan → List Element → List (Option Shape)
of_plan p list = of_transfers (p.ins ++ p.outs) (copied p list) p.extents

-- None is the number of an array that isn't declared, and so is that of a buffer
abbrev pub of_array : List Element → ℕ → ℕ → ℕ → ℕ → Option ℕ → List (Option Shape)
of_array list arrays buffers s level None = not_there ∷ []
of_array list arrays buffers s level (Some array) =
    if nat_lt array arrays then of_plan (plan list s (level - 1) array (arrays + buffers)) list else not_there ∷ []

-- of a program with so many arrays and buffers
abbrev pub copy_cause : List Element → ℕ → ℕ → ℤ → ℤ → Option ℕ → Option Shape
copy_cause list arrays buffers s level array =
    first_of (no_piece list (s ∷ []) ∷ no_level list (s ∷ []) level
    ∷ of_array list arrays buffers (natural s) (natural level) array)

-- what the numbers name: C1 or C2
abbrev pub first_cause : List Element → ℤ → ℤ → Option Shape
first_cause list s level = first_of (no_piece list (s ∷ []) ∷ no_level list (s ∷ []) level ∷ [])

-- C7 or C8, of so many pieces and levels
abbrev pub above_first : ℕ → ℕ → Option Shape
above_first many deep = first_of (above 7 most_pieces many ∷ above 8 most_levels deep ∷ [])

-- what the pieces, the moves and the extents of the buffer tell before the list is made
abbrev pub before_copy : List Piece → List Cells → List ℕ → List (Option Shape)
before_copy ps [] extents = not_there ∷ []
before_copy ps (u ∷ us) extents =
    above 7 most_pieces (length ps + length (u ∷ us)) ∷ above 8 most_levels (max (deepest (map places_of ps)) u.levels)
    ∷ above 9 most_cells (cells_in extents) ∷ []
