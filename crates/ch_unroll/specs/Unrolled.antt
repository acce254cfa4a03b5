-- Unrolling: the turns of a level that leave the same remainder become copies of their own, which are executed in its order.
use Rattle.std.specs.Prelude.{ℕ, zero, suc, ◌+◌, ◌-◌, ℤ, pos, ◌+ℤ◌, ◌*ℤ◌, int_le, ◌&&◌, if◌then◌else◌, Option, None, List, [], ◌∷◌, length, map, slice_index_or, slice_set}
use Rattle.std.specs.Int.{int_div_euclid, int_max, int_rem_euclid}
use Rattle.std.specs.List.{list_all}
use Rattle.ch_nest.specs.declared.cause.Shape.{Shape}
use Rattle.ch_timed.specs.declared.element.Element.{Element}
use Rattle.ch_timed.specs.Closed.{at_vector}
use Rattle.ch_timed.specs.Groups.{in_group, piece}
use Rattle.ch_timed.specs.Vectors.{places, shares, values, woven}
use Rattle.ch_space.specs.Members.{group}
use Rattle.ch_moved.specs.Arguments.{at_level, natural}
use Rattle.ch_moved.specs.Causes.{cause, first_of, no_level, no_piece, too_heavy, too_many}
use Rattle.ch_moved.specs.Moved.{moved}

-- the places of the pieces in the group of piece s and the level
abbrev pub group_places : List Element → ℤ → ℤ → List (List ℤ)
group_places list s level = map (piece list) (group list (natural s) (natural level))

-- The deepest level, from `level` on, that all these places share with those of piece s, so many levels deeper being tried.
abbrev pub deepest_shared : ℕ → ℕ → List ℤ → List (List ℤ) → ℕ
deepest_shared zero level ours all = level
deepest_shared (suc more) level ours all =
    if list_all (shares (level + suc more) ours) all then level + suc more else deepest_shared more level ours all

-- the level behind whose place the copies stand
abbrev pub copy_level : List Element → ℤ → ℤ → ℕ
copy_level list s level =
    deepest_shared (length (piece list (natural s)) - 1 - natural level) (natural level)
    (piece list (natural s)) (group_places list s level)

-- the greatest of some numbers from 0 on
abbrev pub greatest : List ℤ → ℤ
greatest [] = pos 0
greatest (x ∷ xs) = int_max x (greatest xs)

-- how many places one copy takes
abbrev pub copy_width : List Element → ℤ → ℤ → ℤ
copy_width list s level =
    pos 1 +ℤ greatest (map (λ ps. slice_index_or ps (copy_level list s level) (pos 0)) (group_places list s level))

-- Each value of the level is U*x and a remainder r: x is the new value, and the r-th copy follows the ones before it.
abbrev pub unrolled_element : ℕ → ℤ → ℤ → ℤ → Element → Element
unrolled_element h width level amount e =
    at_vector e
    (woven
    (slice_set (places e.vector) h
    (int_rem_euclid (at_level (natural level) (values e.vector)) amount *ℤ width
    +ℤ slice_index_or (places e.vector) h (pos 0)))
    (slice_set (values e.vector) (natural level - 1)
    (int_div_euclid (at_level (natural level) (values e.vector)) amount)))

-- what unrolling does to an element of the list
abbrev pub unrolls : List Element → ℤ → ℤ → ℤ → Element → Element
unrolls list s level amount e =
    if in_group list (natural s) (natural level) (places e.vector)
    then unrolled_element (copy_level list s level) (copy_width list s level) level amount e else e

-- The level of the group of piece s is unrolled by that amount.
abbrev pub unrolled : List Element → ℤ → ℤ → ℤ → List Element
unrolled list s level amount = moved (unrolls list s level amount) list

-- C4: the amount isn't 1 to 32
abbrev pub no_amount : ℤ → Option Shape
no_amount amount = if int_le (pos 1) amount && int_le amount (pos 32) then None else cause 4 amount

abbrev pub unroll_cause : List Element → ℕ → ℤ → ℤ → ℤ → Option Shape
unroll_cause list weight s level amount =
    first_of
    (no_piece list (s ∷ []) ∷ no_level list (s ∷ []) level ∷ no_amount amount ∷ too_heavy weight (natural amount)
    ∷ too_many (unrolls list s level amount) list ∷ [])

-- the causes that show before it is done
abbrev pub first_cause : List Element → ℕ → ℤ → ℤ → ℤ → Option Shape
first_cause list weight s level amount =
    first_of
    (no_piece list (s ∷ []) ∷ no_level list (s ∷ []) level ∷ no_amount amount ∷ too_heavy weight (natural amount)
    ∷ [])
