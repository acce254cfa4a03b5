-- Why the shape of a program forbids a command. The causes are numbered; the first one that holds counts.
use Rattle.std.specs.Prelude.{◌≡◌, ℕ, ◌*◌, ℤ, pos, Bool, false, ◌||◌, nat_lt, if◌then◌else◌, Option, Some, None, Result, Ok, Err, List, [], ◌∷◌, length, map}
use Rattle.std.specs.List.{list_any}
use Rattle.std.specs.Ordering.{int_eq}
use Rattle.ch_nest.specs.declared.cause.Shape.{Shape}
use Rattle.ch_space.specs.declared.error.ShapeError.{ShapeError}
use Rattle.ch_space.specs.declared.error.ShapeError.TheVariants.{Shape as Refused, Memory}
use Rattle.ch_space.specs.Keeps.{most_pieces, most_weight}
use Rattle.ch_timed.specs.declared.element.Element.{Element}
use Rattle.ch_timed.specs.Timed.{in_order, pieces}
use Rattle.ch_space.specs.Members.{group}
use Rattle.ch_timed.specs.Groups.{in_group, piece}
use Rattle.ch_moved.specs.Arguments.{has_level, is_piece, natural}

abbrev pub cause : ℕ → ℤ → Option Shape
cause code number = Some (record { code = code; number = number })

-- the cause of this code with the first of the numbers that fails
abbrev pub first_failing : ℕ → (ℤ → Bool) → List ℤ → Option Shape
first_failing code holds [] = None
first_failing code holds (x ∷ xs) = if holds x then first_failing code holds xs else cause code x

-- the first of some causes
abbrev pub first_of : List (Option Shape) → Option Shape
first_of [] = None
first_of (Some c ∷ more) = Some c
first_of (None ∷ more) = first_of more

-- C1: a statement number isn't a piece's
abbrev pub no_piece : List Element → List ℤ → Option Shape
no_piece list = first_failing 1 (is_piece list)

-- C2: the level isn't one of each named piece
abbrev pub no_level : List Element → List ℤ → ℤ → Option Shape
no_level list [] level = None
no_level list (s ∷ ss) level = if has_level list level s then no_level list ss level else cause 2 level

abbrev pub has_twice : List ℤ → Bool
has_twice [] = false
has_twice (x ∷ xs) = list_any (int_eq x) xs || has_twice xs

-- C3: a statement is named twice
abbrev pub named_twice : List ℤ → Option Shape
named_twice numbers = if has_twice numbers then cause 3 (pos 0) else None

-- C5: the least piece of the group of piece s and level `first` that doesn't share level `last` with it
abbrev pub unshared : List Element → ℕ → ℕ → ℕ → Option Shape
unshared list s first last =
    first_failing 5 (λ k. in_group list s last (piece list (natural k))) (map pos (group list s first))

-- C6: the product of the numbers by which commands multiply passes 2^20
abbrev pub too_heavy : ℕ → ℕ → Option Shape
too_heavy weight by = if nat_lt most_weight (weight * by) then cause 6 (pos (weight * by)) else None

-- C7: the list has more than 256 pieces after the change
abbrev pub too_many : (Element → Element) → List Element → Option Shape
too_many change list =
    if nat_lt most_pieces (length (pieces (in_order (map change list))))
    then cause 7 (pos (length (pieces (in_order (map change list))))) else None

-- A command answers the first cause; it succeeds only where there is none. Memory may run out in any case.
abbrev pub IsCause : ShapeError → Option Shape → Type 0
IsCause Memory first = Unit {0}
IsCause (Refused c) first = first ≡ Some c

abbrev pub Answers : {X : Type 0} → Result X ShapeError → Option Shape → Type 0
Answers (Ok x) first = first ≡ None
Answers (Err e) first = IsCause e first
