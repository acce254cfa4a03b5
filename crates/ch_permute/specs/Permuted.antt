-- Loops of a nest in another order.
use Rattle.std.specs.Prelude.{ℕ, suc, ℤ, pos, Bool, false, if◌then◌else◌, nat_lt, Option, None, List, [], ◌∷◌, ◌++◌, length, map, take, drop}
use Rattle.std.specs.List.{list_all, list_any, range_with_len}
use Rattle.std.specs.Ordering.{int_eq}
use Rattle.ch_nest.specs.declared.cause.Shape.{Shape}
use Rattle.ch_timed.specs.declared.element.Element.{Element}
use Rattle.ch_timed.specs.Groups.{in_group}
use Rattle.ch_moved.specs.Arguments.{at_level, depth, natural}
use Rattle.ch_moved.specs.Causes.{cause, first_of, no_piece, unshared}
use Rattle.ch_moved.specs.Moved.{moved, revalued}

-- The levels, counted from `level`, at which the order has another one.
abbrev pub moving : ℕ → List ℤ → List ℕ
moving level [] = []
moving level (o ∷ order) = if int_eq o (pos level) then moving (suc level) order else level ∷ moving (suc level) order

-- the last number, where `n` stands before the others
abbrev pub last_from : ℕ → List ℕ → ℕ
last_from n [] = n
last_from n (m ∷ more) = last_from m more

-- the loop values in that order, those of deeper levels behind them
abbrev pub picked : List ℤ → List ℤ → List ℤ
picked order xs = map (λ o. at_level (natural o) xs) (take (length xs) order) ++ drop (length order) xs

-- whether the places are in the group of the piece at the first of these levels
abbrev pub in_moving : List Element → ℤ → List ℕ → List ℤ → Bool
in_moving list s [] ps = false
in_moving list s (first ∷ more) ps = in_group list (natural s) first ps

-- The loops of piece s in that order, from the first one that another one replaces.
abbrev pub permuted : List Element → ℤ → List ℤ → List Element
permuted list s order = moved (revalued (in_moving list s (moving 1 order)) (picked order)) list

-- whether each of the levels 1 to m is one of m numbers
abbrev pub is_permutation : List ℤ → Bool
is_permutation order = list_all (λ level. list_any (int_eq (pos level)) order) (range_with_len 1 (length order))

-- C2: the order is longer than the piece is deep
abbrev pub too_long : List Element → ℤ → List ℤ → Option Shape
too_long list s order = if nat_lt (depth list s) (length order) then cause 2 (pos (length order)) else None

-- C3: a level is missing in the order
abbrev pub no_permutation : List ℤ → Option Shape
no_permutation order = if is_permutation order then None else cause 3 (pos 0)

-- C5: the least piece of the group of the first of these levels that doesn't share the last one
abbrev pub unshared_moving : List Element → ℤ → List ℕ → Option Shape
unshared_moving list s [] = None
unshared_moving list s (first ∷ more) = unshared list (natural s) first (last_from first more)

abbrev pub permute_cause : List Element → ℤ → List ℤ → Option Shape
permute_cause list s order =
    first_of
    (no_piece list (s ∷ []) ∷ too_long list s order ∷ no_permutation order ∷ unshared_moving list s (moving 1 order)
    ∷ [])
