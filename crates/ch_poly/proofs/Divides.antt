-- What divides each coefficient divides the sum.
use Rattle.std.proofs.Common.{Bool, true, false, not, IsTrue, ◌≡◌, ℕ, suc, ◌+◌, ◌-◌, ◌<◌, ◌≤◌, ◌⊎◌, inl, inr, ℤ, pos, negsuc, ◌+ℤ◌, ◌*ℤ◌, ◌≤ℤ◌, unsigned_abs, List, [], ◌∷◌, length, refl, sym, subst, arith}
use Prim.Native.Nat.{◌∣◌}
use Rattle.std.specs.Int.{IsGcd}
use Rattle.std.proofs.lemmas.Int.{ints, unsigned_abs-mul}
use Rattle.std.proofs.lemmas.Bool.{cases_lt, cases_eq}
use Rattle.std.proofs.lemmas.Nat.Gcd.{dvd-zero, dvd_trans}
use Rattle.std.proofs.Math.Nat.{dvd-add, dvd-sub, dvd-mul_right_of_dvd}
use Rattle.ch_affine.specs.Form.{Form}
use Rattle.ch_affine.specs.Affine.{dot, value}
use Rattle.ch_poly.specs.Boxes.{at}
use Rattle.ch_poly.specs.Opposed.{IsNever}
use Rattle.ch_poly.specs.Exclusions.{row_at, DividesAll, IsDivisor, IsUneven, IsGcdRow}
use Rattle.ch_poly.proofs.Contradicts.{dot_opposed}

pub abs_sum : (a b : ℤ) → (unsigned_abs (a +ℤ b) ≡ unsigned_abs a + unsigned_abs b) ⊎ ((unsigned_abs (a +ℤ b) ≡ unsigned_abs a - unsigned_abs b) ⊎ (unsigned_abs (a +ℤ b) ≡ unsigned_abs b - unsigned_abs a))
abs_sum (pos a) (pos b) = inl (omega (arith, ints))
abs_sum (pos a) (negsuc b) = elim (cases_lt a (suc b)) [ inl h ↦ inr (inr (omega (arith, ints))) | inr h ↦ inr (inl (omega (arith, ints))) ]
abs_sum (negsuc a) (pos b) = elim (cases_lt b (suc a)) [ inl h ↦ inr (inl (omega (arith, ints))) | inr h ↦ inr (inr (omega (arith, ints))) ]
abs_sum (negsuc a) (negsuc b) = inl (omega (arith, ints))

pub dvd_sum : (g : ℕ) (a b : ℤ) → g ∣ unsigned_abs a → g ∣ unsigned_abs b → g ∣ unsigned_abs (a +ℤ b)
dvd_sum g a b da db =
    let P : ℕ → Type 0 = λ n. g ∣ n in
    elim (abs_sum a b) [
      | inl e ↦ subst P (sym e) (dvd-add g da db)
      | inr e ↦ elim e [ inl f ↦ subst P (sym f) (dvd-sub g da db) | inr f ↦ subst P (sym f) (dvd-sub g db da) ]
    ]

pub dvd_dot : (g : ℕ) (cs p : List ℤ) → ((k : ℕ) → k < length cs → g ∣ unsigned_abs (at cs k)) → g ∣ unsigned_abs (dot cs p)
dvd_dot g [] p h = dvd-zero g
dvd_dot g (c ∷ cs) [] h = dvd-zero g
dvd_dot g (c ∷ cs) (x ∷ p) h =
    let P : ℕ → Type 0 = λ n. g ∣ n in
    dvd_sum g (c *ℤ x) (dot cs p) (subst P (sym (unsigned_abs-mul c x)) (dvd-mul_right_of_dvd g (h 0 (omega arith)) (unsigned_abs x)))
    (dvd_dot g cs p (λ k lt. h (suc k) (omega arith)))

pub gcd_row_never : (rows : List Form) (i : ℕ) → IsGcdRow rows i → IsNever rows
gcd_row_never rows i r = record {
  never = λ p h.
      let f = row_at rows i in
      let g = row_at rows r.later in
      let a : pos 0 ≤ℤ value f p = h.each i _ r.within in
      let b : pos 0 ≤ℤ value g p = h.each r.later _ r.later_within in
      let e : unsigned_abs (dot f.coefs p) ≡ unsigned_abs f.constant = omega (arith, ints, a, b, r.negative.constant, dot_opposed f.coefs g.coefs p r.negative.same r.negative.each) in
      let Q : ℕ → Type 0 = λ n. r.uneven.divisor ∣ n in
      r.uneven.not (subst Q e (dvd_dot r.uneven.divisor f.coefs p r.uneven.is.divides.each));
}

-- the greatest common divisor, one number on
module _ (cs : List ℤ) (k : ℕ) (g h : ℕ) where
  pub divisor_step : ((j : ℕ) → j < k → g ∣ unsigned_abs (at cs j)) → ((d : ℕ) → ((j : ℕ) → j < k → d ∣ unsigned_abs (at cs j)) → d ∣ g) → IsGcd g (unsigned_abs (at cs k)) h
      → record { divides : (j : ℕ) → j < k + 1 → h ∣ unsigned_abs (at cs j); greatest : (d : ℕ) → ((j : ℕ) → j < k + 1 → d ∣ unsigned_abs (at cs j)) → d ∣ h }
  divisor_step divides greatest i = record {
    divides = λ j lj. elim (cases_eq j k) [
      | inl e ↦ (let P : ℕ → Type 0 = λ n. h ∣ unsigned_abs (at cs n) in subst P (sym e) i.1)
      | inr n ↦ dvd_trans h i.0 (divides j (omega (arith, n)))
    ];
    greatest = λ d all. i.2 d (greatest d (λ j lj. all j (omega arith))) (all k (omega arith));
  }

-- the test of the greatest common divisor
pub uneven_yes : (f : Form) (cs : List ℤ) (n g : ℕ) (b : Bool) → cs ≡ f.coefs → n ≡ unsigned_abs f.constant → IsDivisor g cs → (b ≡ false → g ∣ n → ⊥) → IsTrue (not b) → IsUneven f
uneven_yes f cs n g true e m all lacks t = absurd cc
uneven_yes f cs n g false e m all lacks t =
    let P : List ℤ → Type 0 = λ x. IsDivisor g x in
    let Q : ℕ → Type 0 = λ x. g ∣ x in
    record { divisor = g; is = subst P e all; not = λ d. lacks refl (subst Q (sym m) d) }

pub uneven_no : (f : Form) (cs : List ℤ) (n g : ℕ) (b : Bool) → cs ≡ f.coefs → n ≡ unsigned_abs f.constant → IsDivisor g cs → (IsTrue b → g ∣ n) → not b ≡ false → IsUneven f → ⊥
uneven_no f cs n g false e m all tells t u = cc
uneven_no f cs n g true e m all tells t u =
    let P : List ℤ → Type 0 = λ x. DividesAll u.divisor x in
    let Q : ℕ → Type 0 = λ x. u.divisor ∣ x in
    u.not (subst Q m (dvd_trans u.divisor (all.greatest u.divisor (subst P (sym e) u.is.divides)) (tells refl)))

-- none up to here, and none at all
pub not_more : (P : ℕ → Type 0) (i : ℕ) → ((k : ℕ) → k < i → P k → ⊥) → (P i → ⊥) → (k : ℕ) → k < i + 1 → P k → ⊥
not_more P i before here k lt h = elim (cases_eq k i) [ inl e ↦ here (subst P e h) | inr n ↦ before k (omega (arith, n)) h ]

pub not_any : (rows : List Form) (i : ℕ) → length rows ≤ i → ((k : ℕ) → k < i → IsGcdRow rows k → ⊥) → (k : ℕ) → IsGcdRow rows k → ⊥
not_any rows i le none k r = none k (omega (arith, r.within)) r
