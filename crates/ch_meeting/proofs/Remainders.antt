-- A subscript is what is left of its form's value once its modulus is taken away some number of times.
use Rattle.std.proofs.Common.{◌≡◌, ◌≢◌, refl, sym, ap, ◌∙◌, ℕ, zero, suc, ◌+◌, ◌*◌, ◌/◌, ◌%◌, ◌-◌, ◌<◌, ◌≤◌, ◌^◌, ℤ, pos, negsuc, unsigned_abs, ◌+ℤ◌, ◌*ℤ◌, ◌-ℤ◌, ◌<ℤ◌, ◌≤ℤ◌, List, [], ◌∷◌, arith, mul-le-mul_right}
use Rattle.std.proofs.lemmas.Int.{ints}
use Rattle.std.proofs.lemmas.Nat.{div-add-mod'}
use Rattle.std.proofs.Math.Nat.{div-mul-le_self}
use Rattle.std.proofs.Math.IntN.{*ℤ_comm, zero-*ℤ, pos-*ℤ-pos, negsuc-*ℤ-pos}
use Rattle.std.specs.Int.{int_div_euclid, int_rem_euclid}
use Rattle.std.specs.Ordering.{int_cmp, MatchOrdering}
use Rattle.std.specs.declared.cmp.Ordering.{Ordering}
use Rattle.std.specs.declared.cmp.Ordering.TheVariants.{Less, Equal, Greater}
use Rattle.std.specs.Cmp.{int_ranked}
use Rattle.ch_affine.specs.Affine.{IsAtMost, value}
use Rattle.ch_affine.proofs.Integers.{plus_times}
use Rattle.ch_nest.specs.declared.nest.Sub.{Sub}
use Rattle.ch_nest.specs.Run.{modulo, sub_value}
use Rattle.ch_poly.proofs.Firsts.{InBox}
use Rattle.ch_meeting.specs.Placed.{InModulus, left, turn_range}
use Rattle.ch_space.specs.Keeps.{IsWrapped}

split : (z : ℤ) (b : ℕ) → 0 < b → z ≡ int_div_euclid z (pos b) *ℤ pos b +ℤ int_rem_euclid z (pos b)
split (pos a) b h = ap pos (sym (div-add-mod' a b)) ∙ ap (λ y. y +ℤ pos (a % b)) (sym (pos-*ℤ-pos (a / b) b))
split (negsuc a) b h =
    let e = div-add-mod' a b in
    let s : suc (a / b) * b ≡ a / b * b + b = omega arith in
    let l : a % b < b = omega arith in
    rw (negsuc-*ℤ-pos (a / b) b) (omega (arith, ints))

remainder : (z : ℤ) (b : ℕ) → 0 < b → (r : ℕ) × ((int_rem_euclid z (pos b) ≡ pos r) × (r < b))
remainder (pos a) b h = (a % b, (refl, omega arith))
remainder (negsuc a) b h = (b - 1 - a % b, (refl, omega arith))

quotient_small : (z : ℤ) (b : ℕ) → 0 < b → unsigned_abs (int_div_euclid z (pos b)) ≤ unsigned_abs z
quotient_small (pos a) b h = below a b h
  where
    below : (a b : ℕ) → 0 < b → a / b ≤ a
    below a b h = let e = div-add-mod' a b in let m : a / b * 1 ≤ a / b * b = Rattle.std.proofs.Math.Nat.mul-le-mul_left (a / b) h in omega arith
quotient_small (negsuc a) b h =
    let e = div-add-mod' a b in
    let m : a / b * 1 ≤ a / b * b = Rattle.std.proofs.Math.Nat.mul-le-mul_left (a / b) h in
    omega arith

times_more : (q : ℤ) (n b : ℕ) → (q +ℤ pos n) *ℤ pos b ≡ q *ℤ pos b +ℤ pos (n * b)
times_more q n b = plus_times q (pos n) (pos b) ∙ ap (λ y. q *ℤ pos b +ℤ y) (pos-*ℤ-pos n b)

not_less : (b : ℕ) (q p : ℤ) (r s : ℕ) → r < b → q *ℤ pos b +ℤ pos r ≡ p *ℤ pos b +ℤ pos s → q <ℤ p → ⊥
not_less b q p r s l e h =
    let n = unsigned_abs (p -ℤ q) in
    let there : p ≡ q +ℤ pos (unsigned_abs (p -ℤ q)) = omega (arith, ints) in
    let some : 1 ≤ unsigned_abs (p -ℤ q) = omega (arith, ints) in
    let far : p *ℤ pos b ≡ q *ℤ pos b +ℤ pos (unsigned_abs (p -ℤ q) * b) = ap (λ z. z *ℤ pos b) there ∙ times_more q (unsigned_abs (p -ℤ q)) b in
    let long : 1 * b ≤ unsigned_abs (p -ℤ q) * b = mul-le-mul_right b some in
    omega (arith, ints)

same_remainder : (b : ℕ) (q p : ℤ) (r s : ℕ) → r < b → s < b → q *ℤ pos b +ℤ pos r ≡ p *ℤ pos b +ℤ pos s → r ≡ s
same_remainder b q p r s l m e = by (int_cmp q p) (int_ranked q p (int_cmp q p) refl)
  where
    by : (o : Ordering) → MatchOrdering o (q <ℤ p) (q ≡ p) (p <ℤ q) → r ≡ s
    by Less h = absurd (not_less b q p r s l e h)
    by Equal h = let f : q *ℤ pos b ≡ p *ℤ pos b = ap (λ z. z *ℤ pos b) h in omega (arith, ints)
    by Greater h = absurd (not_less b p q s r m (sym e) h)

-- the remainder of a number that is made so
remainder_is : (z q : ℤ) (b r : ℕ) → r < b → z ≡ q *ℤ pos b +ℤ pos r → int_rem_euclid z (pos b) ≡ pos r
remainder_is z q b r l e =
    let some : 0 < b = omega arith in
    let other = remainder z b some in
    let made = sym (ap (λ y. int_div_euclid z (pos b) *ℤ pos b +ℤ y) other.1.0) ∙ sym (split z b some) ∙ e in
    other.1.0 ∙ ap pos (same_remainder b (int_div_euclid z (pos b)) q other.0 r other.1.1 l made)

-- the value modulo m, for each natural m

abbrev Inside : ℕ → ℤ → ℤ → Type 0
Inside m v q = (m ≢ 0) → (pos 0 ≤ℤ (v -ℤ pos m *ℤ q)) × ((v -ℤ pos m *ℤ q) <ℤ pos m)

modulo_is : (m : ℕ) (v q : ℤ) → Inside m v q → modulo m v ≡ v -ℤ pos m *ℤ q
modulo_is zero v q h = let e = zero-*ℤ q in omega (arith, ints)
modulo_is (suc n) v q h =
    let p = h (λ e. absurd (omega arith)) in
    let l = p.0 in
    let g = p.1 in
    let c = *ℤ_comm (pos (suc n)) q in
    let r : v -ℤ pos (suc n) *ℤ q ≡ pos (unsigned_abs (v -ℤ pos (suc n) *ℤ q)) = omega (arith, ints) in
    remainder_is v q (suc n) (unsigned_abs (v -ℤ pos (suc n) *ℤ q)) (omega (arith, ints)) (omega (arith, ints)) ∙ sym r

-- some number of times does
modulo_has : (m : ℕ) (v : ℤ) → ((m ≢ 0) → IsAtMost (2 ^ 54) v) → (q : ℤ) × (Inside m v q × InBox (turn_range m ∷ []) (q ∷ []))
modulo_has zero v h = (pos 0, (λ n. absurd (n refl), (omega (arith, ints), omega (arith, ints), tt)))
modulo_has (suc n) v h =
    let q : ℤ = int_div_euclid v (pos (suc n)) in
    let s = split v (suc n) (omega arith) in
    let r = remainder v (suc n) (omega arith) in
    let c = *ℤ_comm (pos (suc n)) (int_div_euclid v (pos (suc n))) in
    let e = r.1.0 in
    let l = r.1.1 in
    let near : unsigned_abs v ≤ 2 ^ 54 = h (λ e. absurd (omega arith)) in
    let small = quotient_small v (suc n) (omega arith) in
    (int_div_euclid v (pos (suc n)), (λ k. (omega (arith, ints), omega (arith, ints)), (omega (arith, ints), omega (arith, ints), tt)))

pub subscript_is : (s : Sub) (i : List ℤ) (q : ℤ) → InModulus s i q → sub_value i s ≡ left s i q
subscript_is s i q h = modulo_is s.modulus (value s.form i) q h

pub subscript_has : (s : Sub) (i : List ℤ) → IsWrapped i s → (q : ℤ) × (InModulus s i q × InBox (turn_range s.modulus ∷ []) (q ∷ []))
subscript_has s i h = modulo_has s.modulus (value s.form i) h
