-- Pairs of pieces whose elements may change places, and the least reversed pair of other elements.
use Rattle.std.specs.Prelude.{ℕ, Bool, false, ◌&&◌, ◌||◌, if◌then◌else◌, Option, Some, None, List, [], ◌∷◌}
use Rattle.ch_depends.specs.declared.answers.Pair.{Pair}
use Rattle.ch_depends.specs.declared.answers.PiecePair.{PiecePair}
use Rattle.ch_timed.specs.Conflict.{conflict}
use Rattle.ch_timed.specs.declared.element.Cell.{Cell}
use Rattle.ch_timed.specs.declared.element.Element.{Element}
use Rattle.ch_timed.specs.Groups.{piece}
use Rattle.ch_timed.specs.Order as order
use Rattle.ch_timed.specs.Timed.{same_identity, step}
use Rattle.ch_timed.specs.Vectors.{places, same_numbers}

-- the first element is of piece i, and the second one of piece j
abbrev pub are_of : List Element → ℕ → ℕ → Element → Element → Bool
are_of list i j e f = same_numbers (piece list i) (places e.vector) && same_numbers (piece list j) (places f.vector)

-- the elements are of two pieces of the list that are a listed pair, in either order
abbrev pub are_free : List Element → List PiecePair → Element → Element → Bool
are_free list [] e f = false
are_free list (p ∷ ps) e f = (are_of list p.one p.other e f || are_of list p.other p.one e f) || are_free list ps e f

-- the cell on which two elements conflict; none where they are of a listed pair
abbrev pub conflict_but : List Element → List PiecePair → Element → Element → Option Cell
conflict_but list free e f = if are_free list free e f then None else conflict (step e) (step f)

abbrev pub same_element : Element → Element → Bool
same_element e f = same_identity e.identity f.identity

-- the least pair of conflicting elements that the new list has the other way round and that are not of a listed pair of
-- pieces of the old one
abbrev pub reversed_but : List Element → List Element → List PiecePair → Option (order.Pair Element Cell)
reversed_but old new free = order.reversed same_element (conflict_but old free) old new

-- the identities of both elements, and the cell
abbrev pub pair_of_elements : Option (order.Pair Element Cell) → Option Pair
pair_of_elements None = None
pair_of_elements (Some p) = Some (record { first = p.first.identity; second = p.second.identity; cell = p.cell })
