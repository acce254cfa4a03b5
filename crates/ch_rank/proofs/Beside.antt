-- The neighbours, one coordinate after another.
use Rattle.std.proofs.Common.{◌≡◌, ℕ, zero, suc, ◌+◌, ◌-◌, ◌<◌, ◌≤◌, Bool, true, false, cond, nat_lt, ◌&&◌, List, [], ◌∷◌, length, take, set, get_or, refl, ap, arith, length-append}
use Rattle.std.proofs.lemmas.Bool.Decides.{nat_tests}
use Rattle.std.proofs.lemmas.List.{get_or-take}
use Rattle.ch_grid.specs.Points.{is_point, count}
use Rattle.ch_grid.proofs.PointNumbers.{both}
use Rattle.ch_rank.specs.Moves.{Point, beside}
use Rattle.ch_rank.proofs.Moved.{coordinate}

and_of : (a b : Bool) → a ≡ true → b ≡ true → (a && b) ≡ true
and_of true true p q = refl
and_of true false p q = absurd (cc)
and_of false b p q = absurd (cc)

is_below : (x n : ℕ) → x < n → nat_lt x n ≡ true
is_below x n h = grind (arith, nat_tests)

-- a point with another index in range is a point
pub set_point : (ns p : List ℕ) (k i : ℕ) → is_point ns p ≡ true → i < get_or ns k 0 → is_point ns (set p k i) ≡ true
set_point [] [] k i h lt = absurd (omega arith)
set_point [] (x ∷ xs) k i h lt = absurd (cc)
set_point (n ∷ ns) [] k i h lt = absurd (cc)
set_point (n ∷ ns) (x ∷ xs) zero i h lt = and_of (nat_lt i n) (is_point ns xs) (is_below i n lt) (both (nat_lt x n) (is_point ns xs) h).1
set_point (n ∷ ns) (x ∷ xs) (suc k) i h lt =
    let b = both (nat_lt x n) (is_point ns xs) h in and_of (nat_lt x n) (is_point ns (set xs k i)) b.0 (set_point ns xs k i b.1 lt)

pub take_set : (n k i : ℕ) (row : List ℕ) → k < n → take n (set row k i) ≡ set (take n row) k i
take_set zero k i row h = absurd (omega arith)
take_set (suc n) k i [] h = refl
take_set (suc n) zero i (x ∷ xs) h = refl
take_set (suc n) (suc k) i (x ∷ xs) h = ap (λ (v : List ℕ). x ∷ v) (take_set n k i xs (omega arith))

one_case : (b : Bool) (p : Point) → length (cond b (p ∷ []) []) ≤ 1
one_case true p = omega arith
one_case false p = omega arith

pub beside_few : (ns : List ℕ) (p : Point) (k : ℕ) → length (beside ns p k) ≤ 2
beside_few ns p k =
    let a : List Point = cond (nat_lt (get_or p k 0 + 1) (get_or ns k 0)) (set p k (get_or p k 0 + 1) ∷ []) [] in
    let b : List Point = cond (nat_lt 0 (get_or p k 0)) (set p k (get_or p k 0 - 1) ∷ []) [] in
    let x = one_case (nat_lt (get_or p k 0 + 1) (get_or ns k 0)) (set p k (get_or p k 0 + 1)) in
    let y = one_case (nat_lt 0 (get_or p k 0)) (set p k (get_or p k 0 - 1)) in
    omega (arith, length-append a b, x, y)

-- an index of a row's point
pub index_of : (ns row : List ℕ) (k : ℕ) → is_point ns (take (length ns) row) ≡ true → k < length ns → get_or row k 0 < get_or ns k 0
index_of ns row k h lt = let c = coordinate ns (take (length ns) row) k h lt in let e : get_or (take (length ns) row) k 0 ≡ get_or row k 0 = get_or-take (length ns) row k 0 lt in omega (arith, c.below, e)

pub index_small : (ns slice row : List ℕ) (k : ℕ) → is_point ns (take (length ns) row) ≡ true → k < length ns → slice ≡ ns → count slice ≤ 65536 → get_or row k 0 + 1 ≤ 65536
index_small ns slice row k h lt e c = let i = index_of ns row k h lt in let s = coordinate ns (take (length ns) row) k h lt in omega (arith, i, s.small, c, ap count e)

pub less_index : (ns ns' row : List ℕ) (k : ℕ) → is_point ns (take (length ns) row) ≡ true → k < length ns → ns' ≡ ns → get_or row k 0 - 1 < get_or ns' k 0
less_index ns ns' row k h lt e = let i = index_of ns row k h lt in omega (arith, i, ap (λ (v : List ℕ). get_or v k 0) e)

pub size_small : (ns slice row : List ℕ) (k : ℕ) → is_point ns (take (length ns) row) ≡ true → k < length ns → slice ≡ ns → count slice ≤ 65536 → get_or slice k 0 ≤ 65536
size_small ns slice row k h lt e c = let s = coordinate ns (take (length ns) row) k h lt in omega (arith, s.small, c, ap count e, ap (λ (v : List ℕ). get_or v k 0) e)
