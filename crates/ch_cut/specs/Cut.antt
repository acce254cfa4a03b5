-- Cutting a loop: the turns at which a condition holds come first, the others behind them.
use Rattle.std.specs.Prelude.{◌-◌, ◌^◌, ℤ, pos, ◌+ℤ◌, ◌*ℤ◌, int_le, int_lt, nat_le, nat_lt, unsigned_abs, Bool, ◌||◌, if◌then◌else◌, Option, None, List, [], ◌∷◌, length, map, slice_index_or, slice_set}
use Rattle.std.specs.Int.{int_max, int_min}
use Rattle.std.specs.List.{filter, fold}
use Rattle.std.specs.Ordering.{int_eq}
use Rattle.ch_affine.specs.Affine.{value}
use Rattle.ch_affine.specs.Form.{Form}
use Rattle.ch_nest.specs.declared.cause.Shape.{Shape}
use Rattle.ch_timed.specs.declared.element.Element.{Element}
use Rattle.ch_timed.specs.Closed.{at_vector}
use Rattle.ch_timed.specs.Groups.{in_group, piece}
use Rattle.ch_timed.specs.Vectors.{places, values, woven}
use Rattle.ch_moved.specs.Arguments.{at_level, beside, natural}
use Rattle.ch_moved.specs.Causes.{cause, first_failing, first_of, no_level, no_piece, too_many}
use Rattle.ch_moved.specs.Moved.{moved}

-- 0 where the condition holds, else 1
abbrev pub behind : Bool → ℤ
behind b = if b then pos 0 else pos 1

-- The places beside the loop are doubled, and the elements of the group at which the condition fails stand one place behind.
abbrev pub cuts : List Element → ℤ → ℤ → (List ℤ → Bool) → Element → Element
cuts list s level holds e =
    if beside (natural level) (piece list (natural s)) (places e.vector) then
    at_vector e
    (woven
    (slice_set (places e.vector) (natural level - 1)
    (slice_index_or (places e.vector) (natural level - 1) (pos 0) *ℤ pos 2
    +ℤ (if in_group list (natural s) (natural level) (places e.vector) then behind (holds (values e.vector))
    else pos 0)))
    (values e.vector))
    else e

-- The group of piece s and the level is cut by the condition, a form that is to be at least 0.
abbrev pub split : List Element → ℤ → ℤ → Form → List Element
split list s level condition = moved (cuts list s level (λ xs. int_le (pos 0) (value condition xs))) list

-- the values of the level in its group
abbrev pub level_values : List Element → ℤ → ℤ → List ℤ
level_values list s level =
    map (λ e. at_level (natural level) (values e.vector))
    (filter (λ e. in_group list (natural s) (natural level) (places e.vector)) list)

abbrev pub least_of : List ℤ → ℤ
least_of [] = pos 0
least_of (x ∷ xs) = fold int_min x xs

abbrev pub greatest_of : List ℤ → ℤ
greatest_of [] = pos 0
greatest_of (x ∷ xs) = fold int_max x xs

-- the first k values from the least one on, or, where k is below 0, all but the last ones
abbrev pub peels : List Element → ℤ → ℤ → ℤ → List ℤ → Bool
peels list s level k xs =
    if int_lt (pos 0) k then int_lt (at_level (natural level) xs) (least_of (level_values list s level) +ℤ k)
    else int_le (at_level (natural level) xs) (greatest_of (level_values list s level) +ℤ k)

-- The first turns of a loop are taken out of it, or the last ones.
abbrev pub peeled : List Element → ℤ → ℤ → ℤ → List Element
peeled list s level k = moved (cuts list s level (peels list s level k)) list

-- C2: the condition names a level behind the one that is cut
abbrev pub names_deeper : ℤ → Form → Option Shape
names_deeper level condition =
    if int_lt level (pos (length condition.coefs)) then cause 2 (pos (length condition.coefs)) else None

-- C4: a coefficient has a magnitude above 64; then the constant one above 2^30
abbrev pub large_coefficient : Form → Option Shape
large_coefficient condition = first_failing 4 (λ c. nat_le (unsigned_abs c) 64) condition.coefs

abbrev pub large_constant : Form → Option Shape
large_constant condition = first_failing 4 (λ c. nat_le (unsigned_abs c) (2 ^ 30)) (condition.constant ∷ [])

-- C4: the count is 0 or has a magnitude above 16
abbrev pub no_count : ℤ → Option Shape
no_count k = if int_eq k (pos 0) || nat_lt 16 (unsigned_abs k) then cause 4 k else None

abbrev pub split_cause : List Element → ℤ → ℤ → Form → Option Shape
split_cause list s level condition =
    first_of
    (no_piece list (s ∷ []) ∷ no_level list (s ∷ []) level ∷ names_deeper level condition
    ∷ large_coefficient condition ∷ large_constant condition
    ∷ too_many (cuts list s level (λ xs. int_le (pos 0) (value condition xs))) list ∷ [])

abbrev pub peel_cause : List Element → ℤ → ℤ → ℤ → Option Shape
peel_cause list s level k =
    first_of
    (no_piece list (s ∷ []) ∷ no_level list (s ∷ []) level ∷ no_count k
    ∷ too_many (cuts list s level (peels list s level k)) list ∷ [])
