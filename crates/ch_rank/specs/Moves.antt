-- The moves of a simplex on a grid. A point is a list of indices, and `sizes` has the number of values in each coordinate.
use Rattle.std.specs.Prelude.{ℕ, zero, suc, length, slice_index, slice_set, ◌+◌, ◌-◌, ◌*◌, ◌/◌, min, max, Bool, true, false, eqb, nat_lt, ◌&&◌, List, [], ◌∷◌, ◌++◌, map, if◌then◌else◌}

abbrev pub Point : Type 0
Point = List ℕ

-- each coordinate moved, and clamped
abbrev pub moved : (ℕ → ℕ → ℕ) → List ℕ → Point → Point → Point
moved f (n ∷ ns) (a ∷ rest) (v ∷ vs) = min (f a v) (n - 1) ∷ moved f ns rest vs
moved f _ _ _ = []

-- about the best point a: 2a - v, 3a - 2v, and half way from v to a, rounded toward zero
abbrev pub reflection : ℕ → ℕ → ℕ
reflection a v = 2 * a - v

abbrev pub expansion : ℕ → ℕ → ℕ
expansion a v = 3 * a - 2 * v

abbrev pub halfway : ℕ → ℕ → ℕ
halfway a v = (a + (v - a) / 2) - (a - v) / 2

abbrev pub centre : List ℕ → Point
centre sizes = map (λ n. (n - 1) / 2) sizes

-- what a rule gives for m coordinates in turn, from k on
abbrev pub in_turn : (ℕ → List Point) → ℕ → ℕ → List Point
in_turn rule zero k = []
in_turn rule (suc m) k = rule k ++ in_turn rule m (suc k)

-- plus and minus a fifth of the size in a coordinate, but at least 1, clamped
abbrev pub width : ℕ → ℕ
width n = max 1 (n / 5)

abbrev pub around : List ℕ → Point → ℕ → List Point
around ns p k = slice_set p k (min (slice_index p k + width (slice_index ns k)) (slice_index ns k - 1)) ∷ slice_set p k (slice_index p k - width (slice_index ns k)) ∷ []

-- the centre, then two points for each coordinate
abbrev pub first_simplex : List ℕ → List Point
first_simplex sizes = centre sizes ∷ in_turn (around sizes (centre sizes)) (length sizes) 0

-- one more and one less in a coordinate, in the grid
abbrev pub beside : List ℕ → Point → ℕ → List Point
beside ns p k =
    (if nat_lt (slice_index p k + 1) (slice_index ns k) then slice_set p k (slice_index p k + 1) ∷ [] else []) ++
    (if nat_lt 0 (slice_index p k) then slice_set p k (slice_index p k - 1) ∷ [] else [])

-- the neighbours in the grid, plus before minus
abbrev pub near : List ℕ → Point → List Point
near ns p = in_turn (beside ns p) (length ns) 0

abbrev pub same_point : Point → Point → Bool
same_point [] [] = true
same_point (x ∷ xs) (y ∷ ys) = eqb x y && same_point xs ys
same_point _ _ = false
