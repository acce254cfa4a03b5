-- Fusing: loops side by side become one, whose body has theirs one after another.
use Rattle.std.specs.Prelude.{ℕ, ◌-◌, ℤ, pos, ◌+ℤ◌, ◌*ℤ◌, Bool, if◌then◌else◌, Option, None, List, [], ◌∷◌, map, take, slice_index_or, slice_set}
use Rattle.std.specs.Int.{int_max, int_min}
use Rattle.std.specs.List.{filter, fold, list_any}
use Rattle.ch_nest.specs.declared.cause.Shape.{Shape}
use Rattle.ch_timed.specs.declared.element.Element.{Element}
use Rattle.ch_timed.specs.Closed.{at_vector}
use Rattle.ch_timed.specs.Groups.{in_group, piece}
use Rattle.ch_timed.specs.Timed.{pieces}
use Rattle.ch_timed.specs.Vectors.{places, same_numbers, values, woven}
use Rattle.ch_moved.specs.Arguments.{natural}
use Rattle.ch_moved.specs.Causes.{first_failing, first_of, named_twice, no_level, no_piece}
use Rattle.ch_moved.specs.Moved.{moved}

-- whether the places are in the group of one of the named pieces at the level
abbrev pub in_groups : List Element → List ℤ → ℤ → List ℤ → Bool
in_groups list numbers level ps = list_any (λ s. in_group list (natural s) (natural level) ps) numbers

-- the places of all these groups
abbrev pub fused_pieces : List Element → List ℤ → ℤ → List (List ℤ)
fused_pieces list numbers level = filter (in_groups list numbers level) (pieces list)

abbrev pub place_at : ℕ → List ℤ → ℤ
place_at k ps = slice_index_or ps k (pos 0)

abbrev pub greatest : List ℤ → ℤ
greatest [] = pos 0
greatest (x ∷ xs) = int_max x (greatest xs)

abbrev pub least : List ℤ → ℤ
least [] = pos 0
least (x ∷ xs) = fold int_min x xs

-- how many places the body of one loop takes
abbrev pub body_width : List Element → List ℤ → ℤ → ℤ
body_width list numbers level =
    pos 1 +ℤ greatest (map (place_at (natural level)) (fused_pieces list numbers level))

-- the place of the first of the loops
abbrev pub first_place : List Element → List ℤ → ℤ → ℤ
first_place list numbers level = least (map (place_at (natural level - 1)) (fused_pieces list numbers level))

-- Behind the place of the first loop the bodies stand in the order of their loops.
abbrev pub fused_places : ℕ → ℤ → ℤ → List ℤ → List ℤ
fused_places level width first ps =
    slice_set
    (slice_set ps level (place_at (level - 1) ps *ℤ width +ℤ place_at level ps)) (level - 1) first

abbrev pub fuses : List Element → List ℤ → ℤ → Element → Element
fuses list numbers level e =
    if in_groups list numbers level (places e.vector) then
    at_vector e
    (woven
    (fused_places (natural level) (body_width list numbers level) (first_place list numbers level)
    (places e.vector))
    (values e.vector))
    else e

abbrev pub fused : List Element → List ℤ → ℤ → List Element
fused list numbers level = moved (fuses list numbers level) list

-- C5: a named piece doesn't stand behind the same places as the first one
abbrev pub elsewhere : List Element → List ℤ → ℤ → Option Shape
elsewhere list [] level = None
elsewhere list (s ∷ ss) level =
    first_failing 5
    (λ t. same_numbers (take (natural level - 1) (piece list (natural s))) (take (natural level - 1) (piece list (natural t))))
    ss

abbrev pub fuse_cause : List Element → List ℤ → ℤ → Option Shape
fuse_cause list numbers level =
    first_of
    (no_piece list numbers ∷ no_level list numbers level ∷ named_twice numbers ∷ elsewhere list numbers level
    ∷ [])
