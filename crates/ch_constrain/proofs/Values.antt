-- The values at a point of a grid are small.
use Rattle.std.proofs.Common.{◌≡◌, refl, ap, ℕ, zero, suc, ◌+◌, ◌*◌, ◌/◌, ◌^◌, ◌<◌, ◌≤◌, ℤ, pos, ◌+ℤ◌, ◌-ℤ◌, ◌*ℤ◌, ◌≤ℤ◌, unsigned_abs, IsTrue, List, [], ◌∷◌, length, arith, true, negsuc, nat_lt, nat_le, Bool, ◌&&◌}
use Rattle.std.specs.List.{All, list_all}
use Rattle.std.specs.Prelude.{int_le}
use Rattle.std.proofs.lemmas.Bool.{and_parts}
use Rattle.std.proofs.Math.Nat.{mul-le-mul_left}
use Rattle.std.proofs.lemmas.Int.{ints}
use Rattle.std.proofs.lemmas.Bool.Decides.{nat_tests}
use Rattle.ch_affine.specs.Affine.{IsAtMost}
use Rattle.ch_constrain.specs.Nearest.{values}
use Rattle.ch_grid.specs.Grid.{is_good, size, sizes, value_at}
use Rattle.ch_grid.specs.Points.{is_point}
use Rattle.ch_grid.specs.declared.param.Param.{Param}

first_below : (x n : ℕ) (b : Bool) → IsTrue (nat_lt x n && b) → x < n
first_below x n b h = let t = (and_parts (nat_lt x n) b h).0 in grind (arith, nat_tests)

all_more : (P : ℤ → Type 0) (z : ℤ) (zs : List ℤ) → P z → All P zs → All P (z ∷ zs)
all_more P z zs h g zero d l = h
all_more P z zs h g (suc k) d l = g k d (omega arith)

-- so many steps from the low end don't pass the high end
few_steps : (a b x : ℕ) → x < a / b + 1 → b * x ≤ a
few_steps a b x l =
    let h : x ≤ a / b = omega arith in
    let m : b * x ≤ b * (a / b) = mul-le-mul_left b h in
    omega (arith, m)

steps_small : (low high : ℤ) (b x : ℕ) → low ≤ℤ high → x < unsigned_abs (high -ℤ low) / b + 1
    → IsAtMost (2 ^ 20) low → IsAtMost (2 ^ 20) high → IsAtMost (2 ^ 20) (low +ℤ pos (b * x))
steps_small low high b x o l s t =
    let f : b * x ≤ unsigned_abs (high -ℤ low) = few_steps (unsigned_abs (high -ℤ low)) b x l in
    let n : ℕ = b * x in
    grind (arith, ints, f)

by_steps : (low high step : ℤ) (x : ℕ) → low ≤ℤ high → pos 1 ≤ℤ step → x < unsigned_abs (high -ℤ low) / unsigned_abs step + 1
    → IsAtMost (2 ^ 20) low → IsAtMost (2 ^ 20) high → IsAtMost (2 ^ 20) (low +ℤ (step *ℤ pos x))
by_steps low high (pos b) x o p l s t = steps_small low high b x o l s t
by_steps low high (negsuc b) x o p l s t = absurd (omega (arith, ints))

at_most : (z : ℤ) → IsTrue (nat_le (unsigned_abs z) (2 ^ 20)) → IsAtMost (2 ^ 20) z
at_most z h = grind (arith, nat_tests)

int_at_most : (a b : ℤ) → IsTrue (int_le a b) → a ≤ℤ b
int_at_most a b h = grind (arith, ints)

value_small : (p : Param) (x : ℕ) → IsTrue (is_good p) → x < size p → IsAtMost (2 ^ 20) (value_at p x)
unfolding size
value_small p x g l =
    let a = and_parts _ _ g in
    let b = and_parts _ _ a.0 in
    let c = and_parts _ _ b.0 in
    let d = and_parts _ _ c.0 in
    by_steps p.low p.high p.step x (int_at_most p.low p.high d.0) (int_at_most (pos 1) p.step d.1) l (at_most p.low c.1) (at_most p.high b.1)

pub values_small : (ps : List Param) (xs : List ℕ) → list_all is_good ps ≡ true → IsTrue (is_point (sizes ps) xs) → All (IsAtMost (2 ^ 20)) (values ps xs)
values_small [] xs g h = λ k d l. absurd (omega arith)
values_small (p ∷ ps) [] g h = λ k d l. absurd (omega arith)
values_small (p ∷ ps) (x ∷ xs) g h =
    let here : IsAtMost (2 ^ 20) (value_at p x) = value_small p x (and_parts _ _ g).0 (first_below x (size p) (is_point (sizes ps) xs) h) in
    all_more (IsAtMost (2 ^ 20)) (value_at p x) (values ps xs) here (values_small ps xs (and_parts _ _ g).1 (and_parts _ _ h).1)
