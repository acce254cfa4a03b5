-- Distributing: one loop becomes several, each with a part of its body; a new one begins at each named piece.
use Rattle.std.specs.Prelude.{ℕ, ◌+◌, ◌-◌, ℤ, pos, ◌+ℤ◌, ◌*ℤ◌, int_le, if◌then◌else◌, Option, None, List, [], ◌∷◌, length, slice_set}
use Rattle.std.specs.List.{filter}
use Rattle.ch_nest.specs.declared.cause.Shape.{Shape}
use Rattle.ch_timed.specs.declared.element.Element.{Element}
use Rattle.ch_timed.specs.Closed.{at_vector, put_number}
use Rattle.ch_timed.specs.Groups.{in_group, piece}
use Rattle.ch_timed.specs.Vectors.{places, shares, values, woven}
use Rattle.ch_moved.specs.Arguments.{beside, natural}
use Rattle.ch_moved.specs.Causes.{first_failing, first_of, named_twice, no_level, no_piece}
use Rattle.ch_moved.specs.Moved.{moved}
use Rattle.ch_fuse.specs.Fused.{place_at}

-- the number of the first named piece
abbrev pub leader : List ℤ → ℕ
leader [] = 0
leader (s ∷ ss) = natural s

-- the different places of the named pieces in the body of the loop
abbrev pub beginnings : List Element → List ℤ → ℤ → List ℤ
beginnings list [] level = []
beginnings list (s ∷ ss) level =
    put_number (place_at (natural level) (piece list (natural s))) (beginnings list ss level)

-- how many of them are at most that place
abbrev pub begun : List ℤ → ℤ → ℕ
begun places p = length (filter (λ q. int_le q p) places)

-- There is room for the new loops at the place of each loop, and a piece of ours goes to the loop that has begun before it.
abbrev pub distributed_places : ℕ → List ℤ → List ℤ → List ℤ → List ℤ
distributed_places level ours starts ps =
    slice_set ps (level - 1)
    (place_at (level - 1) ps *ℤ pos (length starts + 1)
    +ℤ (if shares level ours ps then pos (begun starts (place_at level ps)) else pos 0))

-- The loop is distributed, and the pieces beside it make room.
abbrev pub distributes : List Element → List ℤ → ℤ → Element → Element
distributes list numbers level e =
    if beside (natural level) (piece list (leader numbers)) (places e.vector) then
    at_vector e
    (woven
    (distributed_places (natural level) (piece list (leader numbers)) (beginnings list numbers level)
    (places e.vector))
    (values e.vector))
    else e

-- where no piece is named nothing changes
abbrev pub distributing : List Element → List ℤ → ℤ → Element → Element
distributing list [] level e = e
distributing list (s ∷ ss) level e = distributes list (s ∷ ss) level e

abbrev pub distributed : List Element → List ℤ → ℤ → List Element
distributed list numbers level = moved (distributing list numbers level) list

-- C5: a named piece isn't in the group of the first one
abbrev pub outside : List Element → List ℤ → ℤ → Option Shape
outside list [] level = None
outside list (s ∷ ss) level =
    first_failing 5 (λ t. in_group list (natural s) (natural level) (piece list (natural t))) ss

abbrev pub distribute_cause : List Element → List ℤ → ℤ → Option Shape
distribute_cause list numbers level =
    first_of
    (no_piece list numbers ∷ no_level list numbers level ∷ named_twice numbers ∷ outside list numbers level ∷ [])
