-- Time vectors (p0, x1, p1, to xd, pd): places, with a loop value between each two.
use Rattle.std.specs.Prelude.{ℕ, ℤ, Bool, ◌&&◌, nat_lt, List, [], ◌∷◌, length, take}
use Rattle.std.specs.Ordering.{int_cmp, is_eq, is_lt}
use Rattle.std.specs.Cmp.Lexicographic.{slice_cmp}

-- the places of a vector
abbrev pub places : List ℤ → List ℤ
places [] = []
places (p ∷ []) = p ∷ []
places (p ∷ x ∷ more) = p ∷ places more

-- its loop values
abbrev pub values : List ℤ → List ℤ
values [] = []
values (p ∷ []) = []
values (p ∷ x ∷ more) = x ∷ values more

-- the vector of these places and loop values
abbrev pub woven : List ℤ → List ℤ → List ℤ
woven [] xs = []
woven (p ∷ ps) [] = p ∷ []
woven (p ∷ ps) (x ∷ xs) = p ∷ x ∷ woven ps xs

abbrev pub same_numbers : List ℤ → List ℤ → Bool
same_numbers xs ys = is_eq (slice_cmp int_cmp xs ys)

-- lexicographic order
abbrev pub comes_before : List ℤ → List ℤ → Bool
comes_before xs ys = is_lt (slice_cmp int_cmp xs ys)

-- both have that depth, and the same p0 to p(level - 1)
abbrev pub shares : ℕ → List ℤ → List ℤ → Bool
shares level ps qs =
    (nat_lt level (length ps) && nat_lt level (length qs)) && same_numbers (take level ps) (take level qs)

abbrev pub begins_with : List ℤ → List ℤ → Bool
begins_with xs vs = same_numbers xs (take (length xs) vs)
