-- How far the values of a level grow.
use Rattle.std.proofs.Common.{◌≡◌, refl, ap, ◌∙◌, ℕ, ◌+◌, ◌*◌, ◌≤◌, ℤ, pos, ◌+ℤ◌, ◌*ℤ◌, ◌≤ℤ◌, unsigned_abs, int_lt, cond, Bool, true, false, List, [], ◌∷◌, map, length, sum, arith}
use Rattle.std.specs.List.{All}
use Rattle.std.proofs.lemmas.Bool.{and_from, and_parts, both_ways}
use Rattle.std.proofs.lemmas.Int.{ints, unsigned_abs-mul}
use Rattle.std.proofs.lemmas.List.Elements.{All-head, All-tail}
use Rattle.std.proofs.lemmas.Nat.{mul-le}
use Rattle.std.proofs.Math.Nat.{mul_comm, mul-add}
use Rattle.ch_affine.specs.Affine.{IsAtMost, dot, value}
use Rattle.ch_affine.specs.Form.{Form}
use Rattle.ch_affine.specs.Rows.{lies_in}
use Rattle.ch_affine.specs.declared.system.Range.{Range}
use Rattle.ch_nest.specs.Shape.{greatest_sum, least_sum}
use Rattle.ch_nest.proofs.Corners.{least_le, greatest_ge}
use Rattle.ch_permute.specs.Lowered.{greater}
use Rattle.ch_permute.specs.Raised.{growth}
use Rattle.ch_moved.proofs.Values.{IsWithin, le_to}
use Rattle.ch_space.specs.Keeps.{IsBounded}
use Rattle.ch_moved.proofs.Limits.{magnitudes}

either_end : (t : Bool) (m : ℕ) (a b : ℤ) → IsAtMost m a → IsAtMost m b → IsAtMost m (cond t a b)
either_end true m a b h k = h
either_end false m a b h k = k

term_bounded : (c x : ℤ) (m : ℕ) → IsAtMost m x → unsigned_abs (c *ℤ x) ≤ m * unsigned_abs c
term_bounded c x m h =
    let p = mul-le (unsigned_abs c) (unsigned_abs x) (unsigned_abs c) m (omega arith) h in
    let e = unsigned_abs-mul c x in
    let q = mul_comm (unsigned_abs c) m in
    omega arith

least_bounded : (cs : List ℤ) (rs : List Range) (m : ℕ) → All (IsBounded m) rs → unsigned_abs (least_sum cs rs) ≤ m * sum (map unsigned_abs cs)
least_bounded [] rs m h = omega arith
least_bounded (c ∷ cs) [] m h = omega arith
least_bounded (c ∷ cs) (r ∷ rs) m h =
    let b = All-head (IsBounded m) r rs h in
    let t = term_bounded c (cond (int_lt c (pos 0)) r.high r.low) m (either_end (int_lt c (pos 0)) m r.high r.low b.high b.low) in
    let s = magnitudes c cs in
    let more = least_bounded cs rs m (All-tail (IsBounded m) r rs h) in
    let e = ap (λ n. m * n) s ∙ mul-add m (unsigned_abs c) (sum (map unsigned_abs cs)) in
    omega (arith, ints, t, more, e)

greatest_bounded : (cs : List ℤ) (rs : List Range) (m : ℕ) → All (IsBounded m) rs → unsigned_abs (greatest_sum cs rs) ≤ m * sum (map unsigned_abs cs)
greatest_bounded [] rs m h = omega arith
greatest_bounded (c ∷ cs) [] m h = omega arith
greatest_bounded (c ∷ cs) (r ∷ rs) m h =
    let b = All-head (IsBounded m) r rs h in
    let t = term_bounded c (cond (int_lt c (pos 0)) r.low r.high) m (either_end (int_lt c (pos 0)) m r.low r.high b.low b.high) in
    let s = magnitudes c cs in
    let more = greatest_bounded cs rs m (All-tail (IsBounded m) r rs h) in
    let e = ap (λ n. m * n) s ∙ mul-add m (unsigned_abs c) (sum (map unsigned_abs cs)) in
    omega (arith, ints, t, more, e)

pub greater_bounded : (f : Form) (rs : List Range) (r : Range) (m : ℕ) → All (IsBounded m) rs → IsBounded m r → IsBounded (m * growth f.coefs + unsigned_abs f.constant) (greater f rs r)
greater_bounded f rs r m h b =
    let e = mul-add m 1 (sum (map unsigned_abs f.coefs)) in
    let l = least_bounded f.coefs rs m h in
    let g = greatest_bounded f.coefs rs m h in
    record { low = let o = b.low in omega (arith, ints); high = let o = b.high in omega (arith, ints) }

least_under : (cs : List ℤ) (rs : List Range) (xs : List ℤ) → length cs ≤ length rs → lies_in rs xs ≡ true → (least_sum cs rs ≤ℤ dot cs xs) × (dot cs xs ≤ℤ greatest_sum cs rs)
least_under [] rs xs l h = (omega (arith, ints), omega (arith, ints))
least_under (c ∷ cs) [] xs l h = absurd (omega arith)
least_under (c ∷ cs) (r ∷ rs) [] l h = absurd (both_ways _ refl h)
least_under (c ∷ cs) (r ∷ rs) (x ∷ xs) l h =
    let p = and_parts _ _ h in
    let one : lies_in (r ∷ []) (x ∷ []) ≡ true = and_from _ _ p.0 refl in
    let a = least_le (c ∷ []) (r ∷ []) (x ∷ []) refl one in
    let b = greatest_ge (c ∷ []) (r ∷ []) (x ∷ []) refl one in
    let more = least_under cs rs xs (omega arith) p.1 in
    (omega (arith, ints, a, b, more.0, more.1), omega (arith, ints, a, b, more.0, more.1))

-- the greater value lies in the greater range
pub within_greater : (f : Form) (rs : List Range) (r : Range) (xs : List ℤ) (x : ℤ) → length f.coefs ≤ length rs → lies_in rs xs ≡ true → IsWithin r x → IsWithin (greater f rs r) (x +ℤ value f xs)
within_greater f rs r xs x l h w =
    let u = least_under f.coefs rs xs l h in
    record { least = let a = w.least in omega (arith, ints, u.0, u.1); most = let a = w.most in omega (arith, ints, u.0, u.1) }

lows_lie : (rs : List Range) → All (λ (b : Range). b.low ≤ℤ b.high) rs → lies_in rs (map (λ (b : Range). b.low) rs) ≡ true
lows_lie [] h = refl
lows_lie (r ∷ rs) h =
    let o = All-head (λ (b : Range). b.low ≤ℤ b.high) r rs h in
    and_from _ _ (and_from _ _ (le_to r.low r.low (omega (arith, ints))) (le_to r.low r.high o)) (lows_lie rs (All-tail (λ (b : Range). b.low ≤ℤ b.high) r rs h))

pub greater_ordered : (f : Form) (rs : List Range) (r : Range) → length f.coefs ≤ length rs → All (λ (b : Range). b.low ≤ℤ b.high) rs → r.low ≤ℤ r.high → (greater f rs r).low ≤ℤ (greater f rs r).high
greater_ordered f rs r l h o =
    let u = least_under f.coefs rs (map (λ (b : Range). b.low) rs) l (lows_lie rs h) in
    omega (arith, ints, u.0, u.1)
