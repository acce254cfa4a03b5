-- Quotients and remainders of integers by a natural number: each number is made of one pair of them.
use Rattle.std.proofs.Common.{◌≡◌, refl, sym, ap, ◌∙◌, ℕ, suc, ◌+◌, ◌*◌, ◌/◌, ◌%◌, ◌-◌, ◌<◌, ◌≤◌, ℤ, pos, negsuc, unsigned_abs, ◌+ℤ◌, ◌*ℤ◌, ◌-ℤ◌, ◌<ℤ◌, arith, mul-le-mul_right}
use Rattle.std.proofs.lemmas.Int.{ints}
use Rattle.std.proofs.lemmas.Nat.{div-add-mod', le-div}
use Rattle.std.proofs.Math.Nat.{div-mul-le_self}
use Rattle.std.proofs.Math.IntN.{pos-*ℤ-pos, negsuc-*ℤ-pos}
use Rattle.std.specs.Int.{int_div_euclid, int_rem_euclid}
use Rattle.std.specs.Ordering.{int_cmp, MatchOrdering}
use Rattle.std.specs.declared.cmp.Ordering.{Ordering}
use Rattle.std.specs.declared.cmp.Ordering.TheVariants.{Less, Equal, Greater}
use Rattle.std.specs.Cmp.{int_ranked}
use Rattle.ch_affine.proofs.Integers.{plus_times}

pub split : (z : ℤ) (b : ℕ) → 0 < b → z ≡ int_div_euclid z (pos b) *ℤ pos b +ℤ int_rem_euclid z (pos b)
split (pos a) b h = ap pos (sym (div-add-mod' a b)) ∙ ap (λ y. y +ℤ pos (a % b)) (sym (pos-*ℤ-pos (a / b) b))
split (negsuc a) b h =
    let e = div-add-mod' a b in
    let s : suc (a / b) * b ≡ a / b * b + b = omega arith in
    let l : a % b < b = omega arith in
    rw (negsuc-*ℤ-pos (a / b) b) (omega (arith, ints))

pub remainder : (z : ℤ) (b : ℕ) → 0 < b → (r : ℕ) × ((int_rem_euclid z (pos b) ≡ pos r) × (r < b))
remainder (pos a) b h = (a % b, (refl, omega arith))
remainder (negsuc a) b h = (b - 1 - a % b, (refl, omega arith))

pub quotient_small : (z : ℤ) (b : ℕ) → 0 < b → unsigned_abs (int_div_euclid z (pos b)) ≤ unsigned_abs z / b + 1
quotient_small (pos a) b h = omega arith
quotient_small (negsuc a) b h =
    let whole = div-mul-le_self a b in
    let more : a / b ≤ suc a / b = le-div (a / b) (suc a) b h (omega arith) in
    omega arith

times_more : (q : ℤ) (n b : ℕ) → (q +ℤ pos n) *ℤ pos b ≡ q *ℤ pos b +ℤ pos (n * b)
times_more q n b = plus_times q (pos n) (pos b) ∙ ap (λ y. q *ℤ pos b +ℤ y) (pos-*ℤ-pos n b)

not_less : (b : ℕ) (q p : ℤ) (r s : ℕ) → r < b → q *ℤ pos b +ℤ pos r ≡ p *ℤ pos b +ℤ pos s → q <ℤ p → ⊥
not_less b q p r s l e h =
    let n = unsigned_abs (p -ℤ q) in
    let there : p ≡ q +ℤ pos (unsigned_abs (p -ℤ q)) = omega (arith, ints) in
    let some : 1 ≤ unsigned_abs (p -ℤ q) = omega (arith, ints) in
    let far : p *ℤ pos b ≡ q *ℤ pos b +ℤ pos (unsigned_abs (p -ℤ q) * b) = ap (λ z. z *ℤ pos b) there ∙ times_more q (unsigned_abs (p -ℤ q)) b in
    let long : 1 * b ≤ unsigned_abs (p -ℤ q) * b = mul-le-mul_right b some in
    omega (arith, ints)

pub unique : (b : ℕ) (q p : ℤ) (r s : ℕ) → r < b → s < b → q *ℤ pos b +ℤ pos r ≡ p *ℤ pos b +ℤ pos s → (q ≡ p) × (r ≡ s)
unique b q p r s l m e = by (int_cmp q p) (int_ranked q p (int_cmp q p) refl)
  where
    by : (o : Ordering) → MatchOrdering o (q <ℤ p) (q ≡ p) (p <ℤ q) → (q ≡ p) × (r ≡ s)
    by Less h = absurd (not_less b q p r s l e h)
    by Equal h = let f : q *ℤ pos b ≡ p *ℤ pos b = ap (λ z. z *ℤ pos b) h in (h, omega (arith, ints))
    by Greater h = absurd (not_less b p q s r m (sym e) h)

-- the remainder of a number that is made so
pub remainder_is : (z q : ℤ) (b r : ℕ) → r < b → z ≡ q *ℤ pos b +ℤ pos r → int_rem_euclid z (pos b) ≡ pos r
remainder_is z q b r l e =
    let some : 0 < b = omega arith in
    let other = remainder z b some in
    let made = sym (ap (λ y. int_div_euclid z (pos b) *ℤ pos b +ℤ y) other.1.0) ∙ sym (split z b some) ∙ e in
    let same = unique b (int_div_euclid z (pos b)) q other.0 r other.1.1 l made in
    other.1.0 ∙ ap pos same.1
