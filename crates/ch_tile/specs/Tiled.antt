-- Tiling: the values of a level in pieces of one size, the loop over which stands around other loops.
use Rattle.std.specs.Prelude.{ℕ, ◌-◌, ℤ, pos, int_le, ◌&&◌, if◌then◌else◌, nat_lt, Option, None, List, [], ◌∷◌, ◌++◌, length, map, take, drop}
use Rattle.std.specs.Int.{int_div_euclid}
use Rattle.ch_nest.specs.declared.cause.Shape.{Shape}
use Rattle.ch_timed.specs.declared.element.Element.{Element}
use Rattle.ch_timed.specs.Closed.{at_vector}
use Rattle.ch_timed.specs.Groups.{in_group}
use Rattle.ch_timed.specs.Timed.{pieces}
use Rattle.ch_timed.specs.Vectors.{places, values, woven}
use Rattle.ch_space.specs.Keeps.{most_levels}
use Rattle.ch_moved.specs.Arguments.{at_level, natural}
use Rattle.ch_moved.specs.Causes.{cause, first_of, no_level, no_piece, unshared}
use Rattle.ch_moved.specs.Moved.{moved}

-- the item at place k of the list, before what stood there
abbrev pub inserted : {A : Type 0} → ℕ → A → List A → List A
inserted k x xs = take k xs ++ x ∷ drop k xs

-- The element one level deeper: the number of its tile is the value of level `outer`, with the place 0 behind it.
abbrev pub tiled_element : ℤ → ℤ → ℤ → Element → Element
tiled_element level size outer e =
    at_vector e
    (woven (inserted (natural outer) (pos 0) (places e.vector))
    (inserted (natural outer - 1) (int_div_euclid (at_level (natural level) (values e.vector)) size)
    (values e.vector)))

-- The values of the level, in tiles of that size, for all pieces in the group of piece s and level `outer`.
abbrev pub tiled : List Element → ℤ → ℤ → ℤ → ℤ → List Element
tiled list s level size outer =
    moved
    (λ e. if in_group list (natural s) (natural outer) (places e.vector) then tiled_element level size outer e
    else e)
    list

abbrev pub largest_tile : ℤ
largest_tile = pos 4096

-- C2: the outer level isn't one of 1 to the level
abbrev pub no_outer : ℤ → ℤ → Option Shape
no_outer level outer = if int_le (pos 1) outer && int_le outer level then None else cause 2 outer

-- C4: the size isn't 1 to 4096
abbrev pub no_size : ℤ → Option Shape
no_size size = if int_le (pos 1) size && int_le size largest_tile then None else cause 4 size

-- how many levels the elements at these places then have
abbrev pub new_depth : List Element → ℕ → ℕ → List ℤ → ℕ
new_depth list s outer ps = if in_group list s outer ps then length ps else length ps - 1

abbrev pub greatest : List ℕ → ℕ
greatest [] = 0
greatest (d ∷ ds) = if nat_lt d (greatest ds) then greatest ds else d

-- C8: the deepest piece has more than 10 levels then
abbrev pub too_deep : List Element → ℕ → ℕ → Option Shape
too_deep list s outer =
    if nat_lt most_levels (greatest (map (new_depth list s outer) (pieces list)))
    then cause 8 (pos (greatest (map (new_depth list s outer) (pieces list)))) else None

abbrev pub tile_cause : List Element → ℤ → ℤ → ℤ → ℤ → Option Shape
tile_cause list s level size outer =
    first_of
    (no_piece list (s ∷ []) ∷ no_level list (s ∷ []) level ∷ no_outer level outer ∷ no_size size
    ∷ unshared list (natural s) (natural outer) (natural level) ∷ too_deep list (natural s) (natural outer) ∷ [])
