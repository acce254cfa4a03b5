-- The numbers of options.
use Rattle.std.specs.Prelude.{ℕ, Bool, ◌&&◌, ◌==◌, nat_le, if◌then◌else◌, ℤ, pos, neg_ℤ, List, [], ◌∷◌, Option, Some, None, option_map, option_and_then}
use Rattle.std.specs.List.{list_all, slice_split}
use Rattle.clap.specs.Words.{Text}
use Rattle.ch_lex.specs.Bytes.{is_digit, number_of}

-- the largest magnitude of a value in `--at`
abbrev pub largest_value : ℕ
largest_value = 1048576

-- the most builders
abbrev pub most_builders : ℕ
most_builders = 8

-- the largest number of a deck of `demo`
abbrev pub largest_number : ℕ
largest_number = 4294967295

-- decimal digits, at least one, that write a number of at most `most`; it may begin with zeros
abbrev pub natural_of : ℕ → Text → Option ℕ
natural_of most [] = None
natural_of most (b ∷ bs) =
    if list_all is_digit (b ∷ bs) && nat_le (number_of (b ∷ bs)) most then Some (number_of (b ∷ bs)) else None

-- 0 is written without a sign
abbrev pub below_zero : ℕ → Option ℤ
below_zero n = if n == 0 then None else Some (neg_ℤ (pos n))

-- a number of magnitude at most `largest_value`, with one `-` before it where it is negative
abbrev pub whole_of : Text → Option ℤ
whole_of [] = None
whole_of (b ∷ bs) =
    if b == 45 then option_and_then below_zero (natural_of largest_value bs)
    else option_map pos (natural_of largest_value (b ∷ bs))

abbrev pub is_comma : ℕ → Bool
is_comma b = b == 44

-- what the test reads of each, where it reads all
abbrev pub each_read : {A B : Type 0} → (A → Option B) → List A → Option (List B)
each_read read [] = Some []
each_read read (x ∷ xs) = option_and_then (λ y. option_map (λ ys. y ∷ ys) (each_read read xs)) (read x)

-- numbers with a comma between each two, at least one
abbrev pub wholes_of : Text → Option (List ℤ)
wholes_of text = each_read whole_of (slice_split is_comma text)
