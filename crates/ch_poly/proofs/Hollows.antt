-- An equality without whole solutions in a box.
use Rattle.std.proofs.Common.{◌≡◌, ℕ, suc, ◌+◌, ◌*◌, ◌<◌, ◌⊎◌, inl, inr, ℤ, pos, negsuc, ◌+ℤ◌, ◌-ℤ◌, ◌*ℤ◌, ◌≤ℤ◌, unsigned_abs, List, [], ◌∷◌, length, sym, ap, subst, arith}
use Prim.Native.Nat.{◌∣◌}
use Rattle.std.specs.Int.{IsGcd}
use Rattle.std.proofs.lemmas.Int.{ints}
use Rattle.std.proofs.lemmas.Bool.{cases_eq}
use Rattle.std.proofs.lemmas.Nat.Gcd.{dvd-zero, dvd_trans}
use Rattle.std.proofs.Math.Nat.{dvd-mul_right_of_dvd}
use Rattle.ch_affine.specs.Affine.{dot}
use Rattle.ch_poly.specs.Boxes.{at, peak, peaks}
use Rattle.ch_poly.proofs.Cuts.{term_up, term_down}
use Rattle.ch_poly.proofs.Peaks.{InEach, rest_in}
use Rattle.ch_poly.proofs.Divides.{dvd_sum}

same_term : (c : ℤ) (l h x : ℤ) → l ≡ h → l ≤ℤ x → x ≤ℤ h → peak c l h -ℤ c *ℤ x ≡ pos 0
same_term (pos c) l h x e a b = (let s : h ≡ x = omega (arith, ints) in let m : pos c *ℤ h ≡ pos c *ℤ x = ap (λ y. pos c *ℤ y) s in omega (arith, ints, m))
same_term (negsuc c) l h x e a b = (let s : l ≡ x = omega (arith, ints) in let m : negsuc c *ℤ l ≡ negsuc c *ℤ x = ap (λ y. negsuc c *ℤ y) s in omega (arith, ints, m))

term_dvd : (g : ℕ) (c l h x : ℤ) → l ≤ℤ x → x ≤ℤ h → (l ≡ h) ⊎ (g ∣ unsigned_abs c) → g ∣ unsigned_abs (peak c l h -ℤ c *ℤ x)
term_dvd g c l h x a b (inl e) = (let P : ℤ → Type 0 = λ z. g ∣ unsigned_abs z in subst P (sym (same_term c l h x e a b)) (dvd-zero g))
term_dvd g (pos c) l h x a b (inr d) =
    let e : unsigned_abs (pos c *ℤ h -ℤ pos c *ℤ x) ≡ c * unsigned_abs (h -ℤ x) = omega (arith, ints, term_up c x h b) in
    let P : ℕ → Type 0 = λ n. g ∣ n in
    subst P (sym e) (dvd-mul_right_of_dvd g d (unsigned_abs (h -ℤ x)))
term_dvd g (negsuc c) l h x a b (inr d) =
    let e : unsigned_abs (negsuc c *ℤ l -ℤ negsuc c *ℤ x) ≡ suc c * unsigned_abs (x -ℤ l) = omega (arith, ints, term_down c x l a) in
    let P : ℕ → Type 0 = λ n. g ∣ n in
    subst P (sym e) (dvd-mul_right_of_dvd g d (unsigned_abs (x -ℤ l)))

pub box_dvd : (g : ℕ) (cs lows highs p : List ℤ) → length cs ≡ length lows → InEach lows highs p → ((k : ℕ) → k < length cs → (at lows k ≡ at highs k) ⊎ (g ∣ unsigned_abs (at cs k)))
    → g ∣ unsigned_abs (peaks cs lows highs -ℤ dot cs p)
box_dvd g [] lows highs p e i all = dvd-zero g
box_dvd g (c ∷ cs) [] highs p e i all = absurd (omega arith)
box_dvd g (c ∷ cs) (l ∷ lows) [] p e i all = absurd (omega (arith, i.same_highs))
box_dvd g (c ∷ cs) (l ∷ lows) (h ∷ highs) [] e i all = absurd (omega (arith, i.same))
box_dvd g (c ∷ cs) (l ∷ lows) (h ∷ highs) (x ∷ p) e i all =
    let here = term_dvd g c l h x (i.low 0 (omega arith)) (i.high 0 (omega arith)) (all 0 (omega arith)) in
    let more = box_dvd g cs lows highs p (omega arith) (rest_in l h x lows highs p i) (λ k lt. all (suc k) (omega arith)) in
    let s : (peak c l h -ℤ c *ℤ x) +ℤ (peaks cs lows highs -ℤ dot cs p) ≡ (peak c l h +ℤ peaks cs lows highs) -ℤ (c *ℤ x +ℤ dot cs p) = omega (arith, ints) in
    let P : ℤ → Type 0 = λ z. g ∣ unsigned_abs z in
    subst P s (dvd_sum g (peak c l h -ℤ c *ℤ x) (peaks cs lows highs -ℤ dot cs p) here more)

module _ (cs lows highs : List ℤ) (k g : ℕ) where
  pub open_then : (n h f : ℕ) → ((j : ℕ) → j < k → (at lows j ≡ at highs j) ⊎ (g ∣ unsigned_abs (at cs j))) → n ≡ unsigned_abs (at cs k) → IsGcd g n h → f ≡ h
      → (j : ℕ) → j < k + 1 → (at lows j ≡ at highs j) ⊎ (f ∣ unsigned_abs (at cs j))
  open_then n h f all e i is j lj =
      let P : ℕ → Type 0 = λ d. d ∣ unsigned_abs (at cs j) in
      elim (cases_eq j k) [
        | inl s ↦ inr (let Q : ℕ → Type 0 = λ q. h ∣ q in let R : ℕ → Type 0 = λ q. h ∣ unsigned_abs (at cs q) in subst P (sym is) (subst R (sym s) (subst Q e i.1)))
        | inr d ↦ elim (all j (omega (arith, d))) [ inl s ↦ inl s | inr t ↦ inr (subst P (sym is) (dvd_trans h i.0 t)) ]
      ]

  pub open_else : (f : ℕ) → ((j : ℕ) → j < k → (at lows j ≡ at highs j) ⊎ (g ∣ unsigned_abs (at cs j))) → at lows k ≡ at highs k → f ≡ g
      → (j : ℕ) → j < k + 1 → (at lows j ≡ at highs j) ⊎ (f ∣ unsigned_abs (at cs j))
  open_else f all same is j lj =
      let P : ℕ → Type 0 = λ d. (at lows j ≡ at highs j) ⊎ (d ∣ unsigned_abs (at cs j)) in
      elim (cases_eq j k) [
        | inl s ↦ inl (let Q : ℕ → Type 0 = λ q. at lows q ≡ at highs q in subst Q (sym s) same)
        | inr d ↦ subst P (sym is) (all j (omega (arith, d)))
      ]
