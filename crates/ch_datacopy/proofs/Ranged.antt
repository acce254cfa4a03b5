-- Ranges that are cut to a magnitude have the values of forms that keep to it.
use Rattle.std.proofs.Common.{◌≡◌, refl, sym, ap, ◌∙◌, subst, ℕ, suc, ◌+◌, ◌<◌, ◌≤◌, ◌^◌, ℤ, pos, neg_ℤ, ◌≤ℤ◌, ◌<ℤ◌, true, false, List, [], ◌∷◌, ◌++◌, map, length, take, get_or, inl, inr, arith}
use Rattle.std.specs.Bool.{IsTrue}
use Rattle.std.specs.List.{All}
use Rattle.std.specs.Prelude.{int_lt, if◌then◌else◌}
use Rattle.std.proofs.lemmas.Bool.{cases_Bool}
use Rattle.std.proofs.lemmas.Int.{ints}
use Rattle.std.proofs.lemmas.List.{take_all, take_more}
use Rattle.std.proofs.lemmas.List.Elements.{All-cons, All-head, All-nil, All-tail}
use Rattle.ch_affine.specs.Affine.{IsAtMost, value}
use Rattle.ch_affine.specs.Corners.{IsGreatestIn, IsLeastIn}
use Rattle.ch_affine.specs.Form.{Form}
use Rattle.ch_affine.specs.Rows.{IsBox, lies_in}
use Rattle.ch_affine.specs.declared.system.Range.{Range}
use Rattle.ch_datacopy.specs.Ranges.{AreRangesOf, HasSmall, IsRangeOf, clamped}
use Rattle.ch_poly.proofs.Firsts.{InBox}
use Rattle.ch_space.specs.Keeps.{IsBounded}

less_of : (u v : ℤ) → int_lt u v ≡ true → u <ℤ v
less_of u v t = grind (arith, ints)

not_less_of : (u v : ℤ) → int_lt u v ≡ false → v ≤ℤ u
not_less_of u v t = grind (arith, ints)

-- the three cases of a number that is cut
record IsClamped (most : ℕ) (z c : ℤ) : Type 0 where
  small : IsAtMost most c
  below : (v : ℤ) → IsAtMost most v → z ≤ℤ v → c ≤ℤ v
  above : (v : ℤ) → IsAtMost most v → v ≤ℤ z → v ≤ℤ c

clamped_is : (most : ℕ) (z : ℤ) → IsClamped most z (clamped most z)
clamped_is most z = elim (cases_Bool (int_lt z (neg_ℤ (pos most)))) as (λ _. IsClamped most z (clamped most z)) [
  | inl h ↦
      let l = less_of z (neg_ℤ (pos most)) h in
      let e : clamped most z ≡ neg_ℤ (pos most) = ap (λ b. if b then neg_ℤ (pos most) else (if int_lt (pos most) z then pos most else z)) h in
      subst (IsClamped most z) (sym e) (record {
        small = omega (arith, ints);
        below = λ v s g. omega (arith, ints);
        above = λ v s g. absurd (omega (arith, ints));
      })
  | inr h ↦ elim (cases_Bool (int_lt (pos most) z)) as (λ _. IsClamped most z (clamped most z)) [
    | inl g ↦
        let l = less_of (pos most) z g in
        let e : clamped most z ≡ pos most =
        ap (λ b. if b then neg_ℤ (pos most) else (if int_lt (pos most) z then pos most else z)) h ∙ ap (λ b. if b then pos most else z) g in
        subst (IsClamped most z) (sym e) (record {
          small = omega (arith, ints);
          below = λ v s k. absurd (omega (arith, ints));
          above = λ v s k. omega (arith, ints);
        })
    | inr g ↦
        let l = not_less_of z (neg_ℤ (pos most)) h in
        let m = not_less_of (pos most) z g in
        let e : clamped most z ≡ z =
        ap (λ b. if b then neg_ℤ (pos most) else (if int_lt (pos most) z then pos most else z)) h ∙ ap (λ b. if b then pos most else z) g in
        subst (IsClamped most z) (sym e) (record {
          small = omega (arith, ints);
          below = λ v s k. k;
          above = λ v s k. k;
        })
  ]
]

pub range_is : (most : ℕ) (boxes : List Range) (f : Form) (least greatest low high : ℤ) → IsLeastIn boxes f least → IsGreatestIn boxes f greatest → HasSmall most boxes f
    → low ≡ clamped most least → high ≡ clamped most greatest → IsRangeOf most boxes f (record { low = low; high = high })
range_is most boxes f least greatest low high bottom top some e g =
    let l = clamped_is most least in
    let h = clamped_is most greatest in
    let between : (x : List ℤ) → IsTrue (lies_in boxes x) → IsAtMost most (value f x) → (low ≤ℤ value f x) × (value f x ≤ℤ high) = λ x i s. (
      subst (λ z. z ≤ℤ value f x) (sym e) (l.below (value f x) s (bottom.least x i)),
      subst (λ z. value f x ≤ℤ z) (sym g) (h.above (value f x) s (top.greatest x i)),
    ) in
    let one = between some.0 some.1 some.2 in
    record {
      low = subst (IsAtMost most) (sym e) l.small;
      high = subst (IsAtMost most) (sym g) h.small;
      some = omega (arith, ints, one.0, one.1);
      has = between;
    }

-- one range more

ranges_push : (most : ℕ) (boxes : List Range) (fs : List Form) (rs : List Range) (f : Form) (r : Range) → AreRangesOf most boxes fs rs → IsRangeOf most boxes f r
    → AreRangesOf most boxes (fs ++ f ∷ []) (rs ++ r ∷ [])
ranges_push most boxes [] [] f r a b = (b, tt)
ranges_push most boxes [] (s ∷ rs) f r a b = absurd a
ranges_push most boxes (g ∷ fs) [] f r a b = absurd a
ranges_push most boxes (g ∷ fs) (s ∷ rs) f r a b = (a.0, ranges_push most boxes fs rs f r a.1 b)

pub ranges_more : (most : ℕ) (boxes : List Range) (fs : List Form) (k : ℕ) (rs next : List Range) (f : Form) (r : Range) → k < length fs → f ≡ get_or fs k f
    → AreRangesOf most boxes (take k fs) rs → IsRangeOf most boxes f r → next ≡ rs ++ r ∷ [] → AreRangesOf most boxes (take (k + 1) fs) next
ranges_more most boxes fs k rs next f r l e a b n =
    subst (λ z. AreRangesOf most boxes z next) (sym (take_more fs k f l ∙ ap (λ z. take k fs ++ z ∷ []) (sym e)))
    (subst (λ z. AreRangesOf most boxes (take k fs ++ f ∷ []) z) (sym n) (ranges_push most boxes (take k fs) rs f r a b))

-- what the ranges are

pub ranges_many : (most : ℕ) (boxes : List Range) (fs : List Form) (rs : List Range) → AreRangesOf most boxes fs rs → length rs ≡ length fs
ranges_many most boxes [] [] a = refl
ranges_many most boxes [] (r ∷ rs) a = absurd a
ranges_many most boxes (f ∷ fs) [] a = absurd a
ranges_many most boxes (f ∷ fs) (r ∷ rs) a = ap suc (ranges_many most boxes fs rs a.1)

pub ranges_bounded : (most : ℕ) (boxes : List Range) (fs : List Form) (rs : List Range) → AreRangesOf most boxes fs rs → All (IsBounded most) rs
ranges_bounded most boxes [] [] a = All-nil (IsBounded most)
ranges_bounded most boxes [] (r ∷ rs) a = absurd a
ranges_bounded most boxes (f ∷ fs) [] a = absurd a
ranges_bounded most boxes (f ∷ fs) (r ∷ rs) a = All-cons (IsBounded most) r rs (record { low = a.0.low; high = a.0.high }) (ranges_bounded most boxes fs rs a.1)

pub ranges_boxes : (most : ℕ) (boxes : List Range) (fs : List Form) (rs : List Range) → most ≤ 2 ^ 54 → AreRangesOf most boxes fs rs → All IsBox rs
ranges_boxes most boxes [] [] m a = All-nil IsBox
ranges_boxes most boxes [] (r ∷ rs) m a = absurd a
ranges_boxes most boxes (f ∷ fs) [] m a = absurd a
ranges_boxes most boxes (f ∷ fs) (r ∷ rs) m a =
    let l = a.0.low in
    let h = a.0.high in
    All-cons IsBox r rs (record { low = omega (arith, m, l); high = omega (arith, m, h); some = a.0.some }) (ranges_boxes most boxes fs rs m a.1)

pub ranges_inside : (most : ℕ) (boxes : List Range) (fs : List Form) (rs : List Range) (x : List ℤ) → AreRangesOf most boxes fs rs → IsTrue (lies_in boxes x)
    → All (IsAtMost most) (map (λ f. value f x) fs) → InBox rs (map (λ f. value f x) fs)
ranges_inside most boxes [] [] x a i s = tt
ranges_inside most boxes [] (r ∷ rs) x a i s = absurd a
ranges_inside most boxes (f ∷ fs) [] x a i s = absurd a
ranges_inside most boxes (f ∷ fs) (r ∷ rs) x a i s =
    let b = a.0.has x i (All-head (IsAtMost most) (value f x) (map (λ f. value f x) fs) s) in
    (b.0, b.1, ranges_inside most boxes fs rs x a.1 i (All-tail (IsAtMost most) (value f x) (map (λ f. value f x) fs) s))

-- forms with small values at some point
pub smalls : (most : ℕ) (boxes : List Range) (fs : List Form) (x : List ℤ) → IsTrue (lies_in boxes x) → All (IsAtMost most) (map (λ f. value f x) fs) → All (HasSmall most boxes) fs
smalls most boxes [] x i s = All-nil (HasSmall most boxes)
smalls most boxes (f ∷ fs) x i s =
    All-cons (HasSmall most boxes) f fs (x, i, All-head (IsAtMost most) (value f x) (map (λ f. value f x) fs) s)
    (smalls most boxes fs x i (All-tail (IsAtMost most) (value f x) (map (λ f. value f x) fs) s))

pub ranges_all : (most : ℕ) (boxes : List Range) (fs : List Form) (k : ℕ) (rs : List Range) → length fs ≤ k → AreRangesOf most boxes (take k fs) rs → AreRangesOf most boxes fs rs
ranges_all most boxes fs k rs l a = subst (λ z. AreRangesOf most boxes z rs) (take_all k fs l) a
