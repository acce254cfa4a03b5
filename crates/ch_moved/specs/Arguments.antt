-- What the arguments of a command name in a timed list: pieces by their numbers from 0, levels from 1.
use Rattle.std.specs.Prelude.{ℕ, ◌-◌, ℤ, pos, negsuc, Bool, false, ◌&&◌, nat_le, nat_lt, int_le, List, length, slice_index_or, take}
use Rattle.std.specs.List.{list_any}
use Rattle.ch_timed.specs.declared.element.Element.{Element}
use Rattle.ch_timed.specs.Groups.{piece}
use Rattle.ch_timed.specs.Timed.{pieces}
use Rattle.ch_timed.specs.Vectors.{same_numbers}

-- 0 for a negative number
abbrev pub natural : ℤ → ℕ
natural (pos n) = n
natural (negsuc n) = 0

-- whether it is the number of a piece
abbrev pub is_piece : List Element → ℤ → Bool
is_piece list (pos s) = nat_lt s (length (pieces list))
is_piece list (negsuc s) = false

-- how many levels a piece has
abbrev pub depth : List Element → ℤ → ℕ
depth list s = length (piece list (natural s)) - 1

-- whether the level is one of 1 to the depth of a piece
abbrev pub has_level : List Element → ℤ → ℤ → Bool
has_level list level s = int_le (pos 1) level && int_le level (pos (depth list s))

-- whether the places are those of a piece that is named
abbrev pub is_named : List Element → List ℤ → List ℤ → Bool
is_named list numbers ps = list_any (λ s. is_piece list s && same_numbers (piece list (natural s)) ps) numbers

-- the loop value of a level, which is counted from 1
abbrev pub at_level : ℕ → List ℤ → ℤ
at_level level xs = slice_index_or xs (level - 1) (pos 0)

-- whether the places are those of a piece beside the loop of that level or in it: they have its place, behind the same places
abbrev pub beside : ℕ → List ℤ → List ℤ → Bool
beside level ours ps = nat_le level (length ps) && same_numbers (take (level - 1) ours) (take (level - 1) ps)
