-- The pieces of a timed list: the elements of each, the ends of a piece, and groups by number.
use Rattle.std.specs.Prelude.{ℕ, ℤ, Option, Some, None, List, [], ◌∷◌, length, map, slice_index_or}
use Rattle.std.specs.List.{filter, range_with_len}
use Rattle.ch_timed.specs.declared.element.Element.{Element}
use Rattle.ch_timed.specs.declared.element.Identity.{Identity}
use Rattle.ch_timed.specs.Groups.{piece, in_group}
use Rattle.ch_timed.specs.Timed.{pieces}
use Rattle.ch_timed.specs.Vectors.{places, same_numbers, shares}

-- the elements whose places are those of piece k, in order
abbrev pub members : List Element → ℕ → List Element
members list k = filter (λ e. same_numbers (piece list k) (places e.vector)) list

abbrev pub identities : List Element → List Identity
identities list = map (λ e. e.identity) list

abbrev pub last : {A : Type 0} → List A → Option A
last [] = None
last (x ∷ []) = Some x
last (x ∷ y ∷ more) = last (y ∷ more)

-- the numbers, ascending, of the places that share that level with these
abbrev pub sharing : ℕ → List ℤ → List (List ℤ) → List ℕ
sharing level ps all =
    filter (λ k. shares level ps (slice_index_or all k [])) (range_with_len 0 (length all))

-- the numbers, ascending, of the pieces in the group of (s, level): those that share that level with piece s
abbrev pub group : List Element → ℕ → ℕ → List ℕ
group list s level =
    filter (λ k. in_group list s level (piece list k)) (range_with_len 0 (length (pieces list)))
