-- The names that a printed program gives to its iterators and to the negative numbers of its right sides. They differ from the
-- name of every array.
use Rattle.std.specs.Prelude.{ℕ, zero, suc, ◌+◌, Bool, ◌&&◌, ◌||◌, ◌==◌, nat_eq, if◌then◌else◌, List, [], ◌∷◌, ◌++◌, codes, drop, length, max, replicate, slice_get}
use Rattle.std.specs.List.{list_any, prefix_len, starts_with}
use Rattle.std.specs.Option.{option_map_or}
use Rattle.ch_nest.specs.declared.nest.ArrayDecl.{ArrayDecl}
use Rattle.ch_print.specs.Numbers.{number_text}

-- a beginning, so many underscores, and a number
abbrev pub made_name : List ℕ → ℕ → ℕ → List ℕ
made_name beginning letters number = beginning ++ replicate letters 95 ++ number_text number

-- the iterator of the loop of a level, the outermost one being 0
abbrev pub iterator_name : ℕ → ℕ → List ℕ
iterator_name letters level = made_name (codes "i") letters level

-- what stands for a negative number of this magnitude
abbrev pub minus_name : ℕ → ℕ → List ℕ
minus_name letters size = made_name (codes "minus") letters size

-- how many underscores

abbrev pub is_underscore : ℕ → Bool
is_underscore b = b == 95

-- the name has this beginning, and so many underscores behind it
abbrev pub is_like : List ℕ → ℕ → List ℕ → Bool
is_like beginning letters name =
    starts_with nat_eq name beginning && nat_eq (prefix_len is_underscore (drop (length beginning) name)) letters

abbrev pub is_taken : ℕ → ArrayDecl → Bool
is_taken letters d = is_like (codes "i") letters d.name || is_like (codes "minus") letters d.name

-- the length of the longest name of an array
abbrev pub longest : List ArrayDecl → ℕ
longest [] = 0
longest (d ∷ ds) = max (length d.name) (longest ds)

-- the first of the k numbers from `letters` on that no array has taken, or the number behind them
abbrev pub first_free : List ArrayDecl → ℕ → ℕ → ℕ
first_free arrays zero letters = letters
first_free arrays (suc k) letters = if list_any (is_taken letters) arrays then first_free arrays k (letters + 1) else letters

-- The fewest underscores that no array has taken. As many as the longest name has letters are always free.
abbrev pub letters_for : List ArrayDecl → ℕ
letters_for arrays = first_free arrays (longest arrays) 0

abbrev pub array_name : List ArrayDecl → ℕ → List ℕ
array_name arrays k = option_map_or (λ d. d.name) (slice_get arrays k) []
