-- Fused places stay apart: behind the place of the first loop the bodies stand one after another, and no other piece stands there.
use Rattle.std.proofs.Common.{◌≡◌, ◌≢◌, refl, sym, ap, ◌∙◌, subst, ℕ, zero, suc, ◌-◌, ◌<◌, ◌≤◌, ℤ, pos, ◌+ℤ◌, ◌*ℤ◌, ◌-ℤ◌, ◌≤ℤ◌, ◌<ℤ◌, unsigned_abs, Bool, true, false, cond, List, length, set, get_or, ◌⊎◌, inl, inr, arith}
use Rattle.std.proofs.lemmas.Bool.{both_ways, cases_lt}
use Rattle.std.proofs.lemmas.Int.{by_lt_z, ints}
use Rattle.std.proofs.lemmas.List.{get_or-set_other, get_or-set_same, length-set}
use Rattle.std.proofs.Math.IntN.{suc_ℤ-*ℤ, zero-*ℤ}
use Rattle.ch_affine.proofs.Integers.{plus_times}
use Rattle.ch_fuse.specs.Fused.{fused_places}
use Rattle.ch_fuse.specs.Replaced.{replaced}
use Rattle.ch_fuse.proofs.Differing.{Differ, DiffersAt, turned}
use Rattle.ch_timed.specs.Members.{In}

-- Numbers below m behind multiples of m tell both.

times_some : (d : ℕ) (m : ℤ) → pos 0 ≤ℤ m → pos 0 ≤ℤ (pos d *ℤ m)
times_some zero m h = omega (arith, ints, zero-*ℤ m)
times_some (suc d) m h = omega (arith, ints, suc_ℤ-*ℤ (pos d) m, times_some d m h)

times_more : (x y m : ℤ) → pos 0 ≤ℤ m → x <ℤ y → ((x *ℤ m) +ℤ m) ≤ℤ (y *ℤ m)
times_more x y m h l =
    let d = unsigned_abs (y -ℤ (x +ℤ pos 1)) in
    let e : y ≡ (x +ℤ pos 1) +ℤ pos d = omega (arith, ints) in
    let f : y *ℤ m ≡ (x +ℤ pos 1) *ℤ m +ℤ pos d *ℤ m = ap (λ z. z *ℤ m) e ∙ plus_times (x +ℤ pos 1) (pos d) m in
    let g = plus_times x (pos 1) m in
    let one = suc_ℤ-*ℤ (pos 0) m in
    let none = zero-*ℤ m in
    let more = times_some d m h in
    omega (arith, ints)

sum_less : (x y m p q : ℤ) → pos 0 ≤ℤ q → p <ℤ m → pos 0 ≤ℤ p → x <ℤ y → (x *ℤ m) +ℤ p ≡ (y *ℤ m) +ℤ q → ⊥
sum_less x y m p q s l t h e = let more = times_more x y m (omega (arith, ints)) h in absurd (omega (arith, ints))

-- the number is one of 0 to below m
pub record IsBelow (m p : ℤ) : Type 0 where
  pub some : pos 0 ≤ℤ p
  pub below : p <ℤ m

pub same_multiple : (x y m p q : ℤ) → IsBelow m p → IsBelow m q → (x *ℤ m) +ℤ p ≡ (y *ℤ m) +ℤ q → x ≡ y
same_multiple x y m p q a b e =
    by_lt_z x y (λ l. absurd (sum_less x y m p q b.some a.below a.some l e))
    (λ l. by_lt_z y x (λ g. absurd (sum_less y x m q p a.some b.below b.some g (sym e))) (λ g. omega (arith, ints)))

same_rest : (x y m p q : ℤ) → x ≡ y → (x *ℤ m) +ℤ p ≡ (y *ℤ m) +ℤ q → p ≡ q
same_rest x y m p q f e = let g = ap (λ z. z *ℤ m) f in omega (arith, ints)

module _ (l : ℕ) (width first : ℤ) (some : 1 ≤ l) where
  abbrev sum_of : List ℤ → ℤ
  sum_of a = get_or a (l - 1) (pos 0) *ℤ width +ℤ get_or a l (pos 0)

  length_fused : (a : List ℤ) → length (fused_places l width first a) ≡ length a
  length_fused a = length-set (set a l (sum_of a)) (l - 1) first ∙ length-set a l (sum_of a)

  at_level : (a : List ℤ) → l < length a → get_or (fused_places l width first a) l (pos 0) ≡ sum_of a
  at_level a h = get_or-set_other (set a l (sum_of a)) (l - 1) l first (pos 0) (λ e. absurd (omega arith)) ∙ get_or-set_same a l (sum_of a) (pos 0) h

  at_first : (a : List ℤ) → l < length a → get_or (fused_places l width first a) (l - 1) (pos 0) ≡ first
  at_first a h = let n = length-set a l (sum_of a) in get_or-set_same (set a l (sum_of a)) (l - 1) first (pos 0) (omega arith)

  at_other : (a : List ℤ) (k : ℕ) → k ≢ l → k ≢ (l - 1) → get_or (fused_places l width first a) k (pos 0) ≡ get_or a k (pos 0)
  at_other a k h j = get_or-set_other (set a l (sum_of a)) (l - 1) k first (pos 0) j ∙ get_or-set_other a l k (sum_of a) (pos 0) h

  module _ (pss : List (List ℤ)) (inside : List ℤ → Bool) (far : (a b : List ℤ) → In a pss → In b pss → (a ≡ b) ⊎ Differ a b) (deep : (a : List ℤ) → inside a ≡ true → l < length a)
      (near : (a b : List ℤ) (k : ℕ) → inside a ≡ true → inside b ≡ true → k < l - 1 → get_or a k (pos 0) ≡ get_or b k (pos 0))
      (leader : (a : List ℤ) → In a pss → inside a ≡ true → (r : List ℤ) × In r pss × (inside r ≡ true) × (get_or r (l - 1) (pos 0) ≡ first))
      (within : (a : List ℤ) → In a pss → inside a ≡ true → IsBelow width (get_or a l (pos 0)))
      (outside : (r q : List ℤ) → inside r ≡ true → inside q ≡ false → l < length q → (k : ℕ) × (k < l) × DiffersAt r q k) where
    abbrev new : List ℤ → List ℤ
    new = fused_places l width first

    both_inside : (a b : List ℤ) → In a pss → In b pss → inside a ≡ true → inside b ≡ true → Differ a b → Differ (new a) (new b)
    both_inside a b i j s t d = elim (cases_lt l d.0) as (λ _. Differ (new a) (new b)) [
      | inl behind ↦
          let m = length_fused a in
          let n = length_fused b in
          let h = d.1.left in
          let g = d.1.right in (
            d.0,
            record {
              left = omega arith;
              right = omega arith;
              differ = λ e. d.1.differ (sym (at_other a d.0 (λ f. absurd (omega arith)) (λ f. absurd (omega arith))) ∙ e ∙ at_other b d.0 (λ f. absurd (omega arith)) (λ f. absurd (omega arith)));
            },
          )
      | inr before ↦
          let m = length_fused a in
          let n = length_fused b in
          let h = deep a s in
          let g = deep b t in
          (l, record { left = omega arith; right = omega arith; differ = λ e. level_differs before (sym (at_level a h) ∙ e ∙ at_level b g) })
    ]
      where
        level_differs : d.0 ≤ l → sum_of a ≡ sum_of b → ⊥
        level_differs before e =
            let x : get_or a (l - 1) (pos 0) ≡ get_or b (l - 1) (pos 0) = same_multiple _ _ width _ _ (within a i s) (within b j t) e in
            let y : get_or a l (pos 0) ≡ get_or b l (pos 0) = same_rest _ _ width _ _ x e in
            elim (cases_lt d.0 (l - 1)) [
              | inl front ↦ d.1.differ (near a b d.0 s t front)
              | inr high ↦ elim (cases_lt d.0 l) [
                | inl z ↦ let k : d.0 ≡ l - 1 = omega arith in d.1.differ (subst (λ n. get_or a n (pos 0) ≡ get_or b n (pos 0)) (sym k) x)
                | inr z ↦ let k : d.0 ≡ l = omega arith in d.1.differ (subst (λ n. get_or a n (pos 0) ≡ get_or b n (pos 0)) (sym k) y)
              ]
            ]

    -- a piece that isn't fused differs from the first loop's pieces already in front of its body
    before_body : (r q : List ℤ) → In r pss → In q pss → inside r ≡ true → inside q ≡ false → (k : ℕ) × (k < l) × DiffersAt r q k
    before_body r q i j s t = elim (cases_lt l (length q)) as (λ _. (k : ℕ) × (k < l) × DiffersAt r q k) [
      | inl h ↦ outside r q s t h
      | inr h ↦ elim (far r q i j) as (λ _. (k : ℕ) × (k < l) × DiffersAt r q k) [
        | inl e ↦ absurd (both_ways _ t (sym (ap inside e) ∙ s))
        | inr d ↦ let g = d.1.right in (d.0, omega arith, d.1)
      ]
    ]

    one_inside : (a b : List ℤ) → In a pss → In b pss → inside a ≡ true → inside b ≡ false → Differ (new a) b
    one_inside a b i j s t =
        let r = leader a i s in
        let d = before_body r.0 b r.1 j r.2 t in
        let m = length_fused a in
        let h = deep a s in
        let below = d.1 in
        (d.0, record { left = omega arith; right = d.2.right; differ = λ e. d.2.differ (here r.0 d.0 r.2 r.3 d.1 ∙ e) })
      where
        here : (r : List ℤ) (k : ℕ) → inside r ≡ true → get_or r (l - 1) (pos 0) ≡ first → k < l → get_or r k (pos 0) ≡ get_or (new a) k (pos 0)
        here r k u f b = elim (cases_lt k (l - 1)) as (λ _. get_or r k (pos 0) ≡ get_or (new a) k (pos 0)) [
          | inl front ↦ near r a k u s front ∙ sym (at_other a k (λ z. absurd (omega arith)) (λ z. absurd (omega arith)))
          | inr high ↦ let e : k ≡ l - 1 = omega arith in subst (λ n. get_or r n (pos 0) ≡ get_or (new a) n (pos 0)) (sym e) (f ∙ sym (at_first a (deep a s)))
        ]

    by : (x y : Bool) (a b : List ℤ) → inside a ≡ x → inside b ≡ y → In a pss → In b pss → Differ a b → Differ (cond x (new a) a) (cond y (new b) b)
    by true true a b s t i j d = both_inside a b i j s t d
    by true false a b s t i j d = one_inside a b i j s t
    by false true a b s t i j d = let r = one_inside b a j i t s in (r.0, turned (new b) a r.0 r.1)
    by false false a b s t i j d = d

    pub fused_differ : (a b : List ℤ) → In a pss → In b pss → Differ a b → Differ (replaced inside new a) (replaced inside new b)
    fused_differ a b i j d = by (inside a) (inside b) a b refl refl i j d
