-- How far a point is from the best, coordinate by coordinate, and that a shrink halves it.
use Rattle.std.proofs.Common.{◌≡◌, ℕ, ◌+◌, ◌-◌, ◌*◌, ◌<◌, ◌≤◌, min, true, nat_lt, List, [], ◌∷◌, refl, ap₂, arith}
use Rattle.ch_grid.specs.Points.{is_point}
use Rattle.ch_grid.proofs.PointNumbers.{both, below_of}
use Rattle.ch_rank.specs.Moves.{Point, moved, halfway}
use Rattle.ch_rank.specs.Bound.{greatest}

-- each coordinate of the second is less than e away
abbrev pub Within : ℕ → Point → Point → Type 0
Within e [] [] = Unit {0}
Within e (x ∷ xs) (y ∷ ys) = (x < y + e) × (y < x + e) × Within e xs ys
Within e _ _ = ⊥

halves : (a v n e : ℕ) → a < n → v < n → a < v + 2 * e → v < a + 2 * e → (min (halfway a v) (n - 1) < a + e) × (a < min (halfway a v) (n - 1) + e)
halves a v n e p q r s = (omega arith, omega arith)

-- a point moved half way is half as far
pub within_half : (e : ℕ) (ns : List ℕ) (a v : Point) → is_point ns a ≡ true → is_point ns v ≡ true → Within (2 * e) a v → Within e a (moved halfway ns a v)
within_half e [] [] [] h k w = tt
within_half e [] (x ∷ xs) v h k w = absurd (cc)
within_half e [] [] (y ∷ ys) h k w = absurd (cc)
within_half e (n ∷ ns) [] v h k w = absurd (cc)
within_half e (n ∷ ns) (x ∷ xs) [] h k w = absurd (cc)
within_half e (n ∷ ns) (x ∷ xs) (y ∷ ys) h k w =
    let p = both (nat_lt x n) (is_point ns xs) h in
    let q = both (nat_lt y n) (is_point ns ys) k in
    let z = halves x y n e (below_of x n p.0) (below_of y n q.0) w.0 w.1 in
    (z.1, z.0, within_half e ns xs ys p.1 q.1 w.2)

-- at distance 0 it is the point itself
pub within_one : (p q : Point) → Within 1 p q → p ≡ q
within_one [] [] w = refl
within_one [] (y ∷ ys) w = absurd w
within_one (x ∷ xs) [] w = absurd w
within_one (x ∷ xs) (y ∷ ys) w = let e : x ≡ y = omega (arith, w.0, w.1) in ap₂ (λ (v : ℕ) (vs : List ℕ). v ∷ vs) e (within_one xs ys w.2)

pub within_self : (e : ℕ) (p : Point) → 0 < e → Within e p p
within_self e [] h = tt
within_self e (x ∷ xs) h = (omega arith, omega arith, within_self e xs h)

-- each size is at most m
abbrev pub AreSizes : ℕ → List ℕ → Type 0
AreSizes m [] = Unit {0}
AreSizes m (n ∷ ns) = (n ≤ m) × AreSizes m ns

pub are_sizes : (m : ℕ) (ns : List ℕ) → greatest ns ≤ m → AreSizes m ns
are_sizes m [] h = tt
are_sizes m (n ∷ ns) h = (omega arith, are_sizes m ns (omega arith))

pub within_grid : (m : ℕ) (ns : List ℕ) (p q : Point) → AreSizes m ns → is_point ns p ≡ true → is_point ns q ≡ true → Within m p q
within_grid m [] [] [] g h k = tt
within_grid m [] (x ∷ xs) q g h k = absurd (cc)
within_grid m [] [] (y ∷ ys) g h k = absurd (cc)
within_grid m (n ∷ ns) [] q g h k = absurd (cc)
within_grid m (n ∷ ns) (x ∷ xs) [] g h k = absurd (cc)
within_grid m (n ∷ ns) (x ∷ xs) (y ∷ ys) g h k =
    let p = both (nat_lt x n) (is_point ns xs) h in
    let q = both (nat_lt y n) (is_point ns ys) k in
    let a = below_of x n p.0 in let b = below_of y n q.0 in
    (omega (arith, g.0), omega (arith, g.0), within_grid m ns xs ys g.1 p.1 q.1)
