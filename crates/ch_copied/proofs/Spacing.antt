-- The new places of loops side by side.
use Rattle.std.proofs.Common.{◌≡◌, refl, sym, ap, ◌∙◌, subst, ℕ, ◌*◌, ◌<◌, ◌≤◌, ℤ, pos, ◌+ℤ◌, ◌-ℤ◌, ◌*ℤ◌, ◌<ℤ◌, ◌≤ℤ◌, unsigned_abs, Bool, true, false, if◌then◌else◌, arith, mul-le-mul_right}
use Rattle.std.proofs.lemmas.Int.{ints}
use Rattle.std.specs.Ordering.{int_cmp, int_eq, MatchOrdering}
use Rattle.std.specs.declared.cmp.Ordering.{Ordering}
use Rattle.std.specs.declared.cmp.Ordering.TheVariants.{Less, Equal, Greater}
use Rattle.std.specs.Cmp.{int_ranked}
use Rattle.ch_copied.proofs.Multiples.{times_more}
use Rattle.ch_copied.proofs.Runs.{is_eq}

-- loops side by side stand at least one width apart
apart : (p q : ℤ) (w : ℕ) → p <ℤ q → (p *ℤ pos w +ℤ pos w) ≤ℤ (q *ℤ pos w)
apart p q w h =
    let there : q ≡ p +ℤ pos (unsigned_abs (q -ℤ p)) = omega (arith, ints) in
    let some : 1 ≤ unsigned_abs (q -ℤ p) = omega (arith, ints) in
    let made : q *ℤ pos w ≡ p *ℤ pos w +ℤ pos (unsigned_abs (q -ℤ p) * w) = ap (λ z. z *ℤ pos w) there ∙ times_more p (unsigned_abs (q -ℤ p)) w in
    let long : 1 * w ≤ unsigned_abs (q -ℤ p) * w = mul-le-mul_right w some in
    omega (arith, ints)

module _ (loop : ℤ) (i w : ℕ) (inside : i < w) where
  abbrev pub spaced : ℤ → ℤ
  spaced q = q *ℤ pos w +ℤ (if int_eq q loop then pos i else pos 0)

  bounded : (b : Bool) → (n : ℕ) × (((if b then pos i else pos 0) ≡ pos n) × (n < w))
  bounded true = (i, (refl, inside))
  bounded false = (0, (refl, omega arith))

  pub at_loop : spaced loop ≡ loop *ℤ pos w +ℤ pos i
  at_loop = rw (is_eq loop) refl

  pub rises : (p q : ℤ) → p <ℤ q → spaced p <ℤ spaced q
  rises p q h =
      let far = apart p q w h in
      let a = bounded (int_eq p loop) in
      let b = bounded (int_eq q loop) in
      let la = a.1.1 in
      let lb = b.1.1 in
      subst (λ z. (p *ℤ pos w +ℤ z) <ℤ (q *ℤ pos w +ℤ (if int_eq q loop then pos i else pos 0))) (sym a.1.0)
      (subst (λ z. (p *ℤ pos w +ℤ pos a.0) <ℤ (q *ℤ pos w +ℤ z)) (sym b.1.0) (strictly (p *ℤ pos w) (q *ℤ pos w) a.0 b.0 far la))
    where
      strictly : (x y : ℤ) (m n : ℕ) → (x +ℤ pos w) ≤ℤ y → m < w → (x +ℤ pos m) <ℤ (y +ℤ pos n)
      strictly x y m n f l = omega (arith, ints)

  -- only the loop itself comes to its new places
  pub is_loop : (q : ℤ) → (loop *ℤ pos w) ≤ℤ spaced q → spaced q <ℤ (loop *ℤ pos w +ℤ pos w) → q ≡ loop
  is_loop q l m = by (int_cmp q loop) (int_ranked q loop (int_cmp q loop) refl)
    where
      a : (n : ℕ) × (((if int_eq q loop then pos i else pos 0) ≡ pos n) × (n < w))
      a = bounded (int_eq q loop)

      low : (loop *ℤ pos w) ≤ℤ (q *ℤ pos w +ℤ pos a.0)
      low = subst (λ z. (loop *ℤ pos w) ≤ℤ (q *ℤ pos w +ℤ z)) a.1.0 l

      high : (q *ℤ pos w +ℤ pos a.0) <ℤ (loop *ℤ pos w +ℤ pos w)
      high = subst (λ z. (q *ℤ pos w +ℤ z) <ℤ (loop *ℤ pos w +ℤ pos w)) a.1.0 m

      below : (x y : ℤ) (n : ℕ) → (x +ℤ pos w) ≤ℤ y → n < w → y ≤ℤ (x +ℤ pos n) → ⊥
      below x y n f k g = omega (arith, ints)

      above : (x y : ℤ) (n : ℕ) → (y +ℤ pos w) ≤ℤ x → (x +ℤ pos n) <ℤ (y +ℤ pos w) → ⊥
      above x y n f g = omega (arith, ints)

      by : (o : Ordering) → MatchOrdering o (q <ℤ loop) (q ≡ loop) (loop <ℤ q) → q ≡ loop
      by Less h = absurd (below (q *ℤ pos w) (loop *ℤ pos w) a.0 (apart q loop w h) a.1.1 low)
      by Equal h = h
      by Greater h = absurd (above (q *ℤ pos w) (loop *ℤ pos w) a.0 (apart loop q w h) high)
