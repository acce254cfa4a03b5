-- Sums and remainders of numbers in two parts.
use Rattle.std.proofs.Common.{◌≡◌, refl, sym, ap, ap₂, ◌∙◌, subst, ℕ, zero, suc, ◌+◌, ◌*◌, ◌^◌, ◌/◌, ◌<◌, ◌≤◌, ℤ, pos, unsigned_abs, ◌+ℤ◌, ◌*ℤ◌, List, [], ◌∷◌, length, get_or, drop, ◌⊎◌, inl, inr, min, arith, mul-le-mul_left}
use Rattle.std.proofs.lemmas.Bool.{cases_order}
use Rattle.std.proofs.lemmas.Int.{ints, unsigned_abs-mul}
use Rattle.std.proofs.lemmas.List.{drop_more, drop_all}
use Rattle.std.proofs.Math.IntN.{+ℤ_assoc, *ℤ_comm}
use Rattle.std.specs.Int.{int_div_euclid, int_rem_euclid}
use Rattle.ch_affine.proofs.Integers.{plus_times, times_plus, times_assoc}
use Rattle.ch_affine.specs.Affine.{dot}
use Rattle.ch_nest.specs.Run.{modulo}
use Rattle.ch_order.specs.WideNumbers.{number}
use Rattle.ch_order.proofs.Euclid.{split, quotient_small, remainder, remainder_is}

pub parts_added : (high low more t q r : ℤ) → t ≡ low +ℤ more → q ≡ int_div_euclid t (pos (2 ^ 64)) → r ≡ int_rem_euclid t (pos (2 ^ 64))
    → number (high +ℤ q) r ≡ number high low +ℤ more
parts_added high low more t q r e d m =
    let s = split t (2 ^ 64) (omega arith) in
    let made : t ≡ q *ℤ pos (2 ^ 64) +ℤ r = s ∙ ap₂ (λ x y. x *ℤ pos (2 ^ 64) +ℤ y) (sym d) (sym m) in
    omega (arith, ints)

pub quotient_bound : (t q : ℤ) → q ≡ int_div_euclid t (pos (2 ^ 64)) → unsigned_abs t ≤ 2 ^ 126 + 2 ^ 64 → unsigned_abs q ≤ 2 ^ 62 + 2
quotient_bound t q d l =
    let s = quotient_small t (2 ^ 64) (omega arith) in
    let small : unsigned_abs q ≤ unsigned_abs t / 2 ^ 64 + 1 = subst (λ x. unsigned_abs x ≤ unsigned_abs t / 2 ^ 64 + 1) (sym d) s in
    omega arith

-- the sum, one term on
pub term_more : (cs xs : List ℤ) (k : ℕ) (sum more next total : ℤ) → k < length cs → k < length xs → more ≡ get_or cs k (pos 0) *ℤ get_or xs k (pos 0)
    → next ≡ sum +ℤ more → sum +ℤ dot (drop k cs) (drop k xs) ≡ total → next +ℤ dot (drop (k + 1) cs) (drop (k + 1) xs) ≡ total
term_more cs xs k sum more next total lc lx m n h =
    let a = rw (drop_more cs k (pos 0) lc, drop_more xs k (pos 0) lx) at h in
    rw (n, m, +ℤ_assoc) a

dot_none : (cs : List ℤ) → dot cs [] ≡ pos 0
dot_none [] = refl
dot_none (c ∷ cs) = refl

-- where one of the lists is at its end, nothing is left
ends : (cs xs : List ℤ) (k : ℕ) (sum total : ℤ) → length cs ≤ k ⊎ length xs ≤ k → sum +ℤ dot (drop k cs) (drop k xs) ≡ total → sum ≡ total
ends cs xs k sum total (inl l) h =
    let e : dot (drop k cs) (drop k xs) ≡ pos 0 = ap (λ ys. dot ys (drop k xs)) (drop_all k cs l) in
    omega (arith, ints)
ends cs xs k sum total (inr l) h =
    let e : dot (drop k cs) (drop k xs) ≡ pos 0 = ap (dot (drop k cs)) (drop_all k xs l) ∙ dot_none (drop k cs) in
    omega (arith, ints)

first_end : (m n k terms : ℕ) → terms ≡ min m n → terms ≤ k → m ≤ k ⊎ n ≤ k
first_end m n k terms e l = elim (cases_order m n) as (λ _. m ≤ k ⊎ n ≤ k) [
  | inl same ↦ inl (omega arith)
  | inr o ↦ elim o as (λ _. m ≤ k ⊎ n ≤ k) [ inl less ↦ inl (omega arith) | inr more ↦ inr (omega arith) ]
]

pub sum_ends : (cs xs : List ℤ) (k terms : ℕ) (sum total : ℤ) → terms ≡ min (length cs) (length xs) → terms ≤ k → sum +ℤ dot (drop k cs) (drop k xs) ≡ total → sum ≡ total
sum_ends cs xs k terms sum total e l h = ends cs xs k sum total (first_end (length cs) (length xs) k terms e l) h

-- the remainder of a number in two parts, whose upper part weighs b, by the remainders of its parts
remainder_by : (b m : ℕ) (high low h w t r : ℤ) → 0 < m → h ≡ int_rem_euclid high (pos m) → w ≡ int_rem_euclid (pos b) (pos m) → t ≡ h *ℤ w +ℤ low
    → r ≡ int_rem_euclid t (pos m) → r ≡ int_rem_euclid (high *ℤ pos b +ℤ low) (pos m)
remainder_by b m high low h w t r some eh ew et er =
    let qh = int_div_euclid high (pos m) in
    let qb = int_div_euclid (pos b) (pos m) in
    let qt = int_div_euclid t (pos m) in
    let high_is : high ≡ int_div_euclid high (pos m) *ℤ pos m +ℤ h = split high m some ∙ ap (λ x. int_div_euclid high (pos m) *ℤ pos m +ℤ x) (sym eh) in
    let weight_is : pos b ≡ int_div_euclid (pos b) (pos m) *ℤ pos m +ℤ w = split (pos b) m some ∙ ap (λ x. int_div_euclid (pos b) (pos m) *ℤ pos m +ℤ x) (sym ew) in
    let rest_is : t ≡ int_div_euclid t (pos m) *ℤ pos m +ℤ r = split t m some ∙ ap (λ x. int_div_euclid t (pos m) *ℤ pos m +ℤ x) (sym er) in
    let last = remainder t m some in
    let whole = whole_is high low (pos b) (pos m) (int_div_euclid high (pos m)) h (int_div_euclid (pos b) (pos m)) w (int_div_euclid t (pos m)) r t high_is weight_is et rest_is in
    let natural : r ≡ pos last.0 = er ∙ last.1.0 in
    natural ∙ sym (remainder_is (high *ℤ pos b +ℤ low) _ m last.0 last.1.1 (whole ∙ ap (λ x. ((int_div_euclid high (pos m) *ℤ pos b +ℤ h *ℤ int_div_euclid (pos b) (pos m)) +ℤ int_div_euclid t (pos m)) *ℤ pos m +ℤ x) natural))
  where
    whole_is : (high low b m qh h qb w qt r t : ℤ) → high ≡ qh *ℤ m +ℤ h → b ≡ qb *ℤ m +ℤ w → t ≡ h *ℤ w +ℤ low → t ≡ qt *ℤ m +ℤ r
        → high *ℤ b +ℤ low ≡ ((qh *ℤ b +ℤ h *ℤ qb) +ℤ qt) *ℤ m +ℤ r
    whole_is high low b m qh h qb w qt r t eh eb et er =
        let first : high *ℤ b ≡ (qh *ℤ m) *ℤ b +ℤ h *ℤ b = ap (λ x. x *ℤ b) eh ∙ plus_times (qh *ℤ m) h b in
        let turned : (qh *ℤ m) *ℤ b ≡ (qh *ℤ b) *ℤ m = times_assoc qh m b ∙ ap (λ x. qh *ℤ x) (*ℤ_comm m b) ∙ sym (times_assoc qh b m) in
        let second : h *ℤ b ≡ h *ℤ (qb *ℤ m) +ℤ h *ℤ w = ap (λ x. h *ℤ x) eb ∙ times_plus h (qb *ℤ m) w in
        let joined : h *ℤ (qb *ℤ m) ≡ (h *ℤ qb) *ℤ m = sym (times_assoc h qb m) in
        let outer : ((qh *ℤ b +ℤ h *ℤ qb) +ℤ qt) *ℤ m ≡ (qh *ℤ b +ℤ h *ℤ qb) *ℤ m +ℤ qt *ℤ m = plus_times (qh *ℤ b +ℤ h *ℤ qb) qt m in
        let inner : (qh *ℤ b +ℤ h *ℤ qb) *ℤ m ≡ (qh *ℤ b) *ℤ m +ℤ (h *ℤ qb) *ℤ m = plus_times (qh *ℤ b) (h *ℤ qb) m in
        sums (high *ℤ b) low ((qh *ℤ m) *ℤ b) (h *ℤ b) ((qh *ℤ b) *ℤ m) (h *ℤ (qb *ℤ m)) (h *ℤ w) ((h *ℤ qb) *ℤ m) (((qh *ℤ b +ℤ h *ℤ qb) +ℤ qt) *ℤ m) ((qh *ℤ b +ℤ h *ℤ qb) *ℤ m) (qt *ℤ m) r t
        first turned second joined outer inner et er
      where
        sums : (p low a hb x y z j o i q r t : ℤ) → p ≡ a +ℤ hb → a ≡ x → hb ≡ y +ℤ z → y ≡ j → o ≡ i +ℤ q → i ≡ x +ℤ j → t ≡ z +ℤ low → t ≡ q +ℤ r → p +ℤ low ≡ o +ℤ r
        sums p low a hb x y z j o i q r t e1 e2 e3 e4 e5 e6 e7 e8 = omega (arith, ints)

-- the remainder of a number, where the modulus isn't 0
pub reduced_number : (m : ℕ) (high low h w t r : ℤ) → (m ≡ 0 → ⊥) → h ≡ int_rem_euclid high (pos m) → w ≡ int_rem_euclid (pos (2 ^ 64)) (pos m) → t ≡ h *ℤ w +ℤ low
    → r ≡ int_rem_euclid t (pos m) → number (pos 0) r ≡ modulo m (number high low)
reduced_number zero high low h w t r n eh ew et er = absurd (n refl)
reduced_number (suc m) high low h w t r n eh ew et er =
    let none : number (pos 0) r ≡ r = omega (arith, ints) in
    none ∙ remainder_by (2 ^ 64) (suc m) high low h w t r (omega arith) eh ew et er

pub small_times : (a b : ℤ) → unsigned_abs a ≤ 2 ^ 32 → unsigned_abs b ≤ 2 ^ 32 → unsigned_abs (a *ℤ b) ≤ 2 ^ 64
small_times a b h g =
    let e = unsigned_abs-mul a b in
    let l : unsigned_abs a * unsigned_abs b ≤ unsigned_abs a * 2 ^ 32 = mul-le-mul_left (unsigned_abs a) g in
    omega arith
