-- A loop value plus a sum of those around it.
use Rattle.std.specs.Prelude.{ℕ, ◌+◌, ◌-◌, ◌^◌, ℤ, pos, ◌+ℤ◌, ◌-ℤ◌, if◌then◌else◌, nat_le, unsigned_abs, Option, None, List, [], ◌∷◌, length, map, slice_set}
use Rattle.std.specs.List.{sum}
use Rattle.std.specs.Ordering.{int_eq}
use Rattle.ch_affine.specs.Affine.{dot}
use Rattle.ch_nest.specs.declared.cause.Shape.{Shape}
use Rattle.ch_timed.specs.declared.element.Element.{Element}
use Rattle.ch_moved.specs.Arguments.{at_level, is_named, natural}
use Rattle.ch_moved.specs.Causes.{cause, first_failing, first_of, named_twice, no_level, no_piece, too_heavy}
use Rattle.ch_moved.specs.Moved.{moved, revalued}

-- the loop values, that of the level being greater by a number that depends on them
abbrev pub raised : ℤ → (List ℤ → ℤ) → List ℤ → List ℤ
raised level by xs = slice_set xs (natural level - 1) (at_level (natural level) xs +ℤ by xs)

-- In the named pieces each loop value around the level, times its amount, is added to that of the level.
abbrev pub skewed : List Element → List ℤ → ℤ → List ℤ → List Element
skewed list numbers level amounts = moved (revalued (is_named list numbers) (raised level (dot amounts))) list

-- In the named pieces the amount is added to the loop value of the level.
abbrev pub shifted : List Element → List ℤ → ℤ → ℤ → List Element
shifted list numbers level amount = moved (revalued (is_named list numbers) (raised level (λ xs. amount))) list

abbrev pub most_amount : ℕ
most_amount = 64

abbrev pub most_shift : ℕ
most_shift = 2 ^ 20

-- C4: there isn't one amount for each level around it
abbrev pub wrong_count : ℤ → List ℤ → Option Shape
wrong_count level amounts =
    if int_eq (pos (length amounts)) (level -ℤ pos 1) then None else cause 4 (pos (length amounts))

-- the number by which a skew multiplies the weight
abbrev pub growth : List ℤ → ℕ
growth amounts = 1 + sum (map unsigned_abs amounts)

abbrev pub skew_cause : List Element → ℕ → List ℤ → ℤ → List ℤ → Option Shape
skew_cause list weight numbers level amounts =
    first_of
    (no_piece list numbers ∷ no_level list numbers level ∷ named_twice numbers ∷ wrong_count level amounts
    ∷ first_failing 4 (λ a. nat_le (unsigned_abs a) most_amount) amounts ∷ too_heavy weight (growth amounts)
    ∷ [])

-- C4: the amount has a magnitude above 2^20
abbrev pub too_far : ℤ → Option Shape
too_far amount = first_failing 4 (λ a. nat_le (unsigned_abs a) most_shift) (amount ∷ [])

abbrev pub shift_cause : List Element → List ℤ → ℤ → ℤ → Option Shape
shift_cause list numbers level amount =
    first_of
    (no_piece list numbers ∷ no_level list numbers level ∷ named_twice numbers ∷ too_far amount ∷ [])
