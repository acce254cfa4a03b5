-- A box after one of its ranges is another.
use Rattle.std.proofs.Common.{◌≡◌, ℕ, zero, suc, ◌+◌, ◌<◌, ◌≤◌, ◌^◌, ◌⊎◌, inl, inr, ℤ, pos, ◌+ℤ◌, ◌*ℤ◌, ◌-ℤ◌, ◌≤ℤ◌, unsigned_abs, List, [], ◌∷◌, length, set, refl, sym, ap, ◌∙◌, subst, arith}
use Rattle.std.proofs.lemmas.Int.{ints}
use Rattle.std.proofs.lemmas.Bool.{cases_eq}
use Rattle.std.proofs.lemmas.List.{length-set, get_or-set_same, get_or-set_other}
use Rattle.std.proofs.lemmas.List.Elements.{All-set}
use Rattle.ch_affine.specs.Affine.{IsAtMost}
use Rattle.ch_poly.specs.Boxes.{peak, at, widths, IsBoxed, Within, Inside}
use Rattle.ch_poly.specs.Cutting.{KeepsNear, KeepsNumber, IsSameBut, IsSameFrom}
use Rattle.ch_poly.proofs.Peaks.{InEach}

pub at_set : (xs : List ℤ) (k : ℕ) (v : ℤ) (j : ℕ) → k < length xs → ((j ≡ k) × (at (set xs k v) j ≡ v)) ⊎ ((j ≡ k → ⊥) × (at (set xs k v) j ≡ at xs j))
at_set xs k v j lt = elim (cases_eq j k) [
  | inl e ↦ inl (e, (let P : ℕ → Type 0 = λ i. at (set xs k v) i ≡ v in subst P (sym e) (get_or-set_same xs k v (pos 0) lt)))
  | inr n ↦ inr (n, get_or-set_other xs k j v (pos 0) n)
]

pub low_set : (xs : List ℤ) (k : ℕ) (v : ℤ) (j : ℕ) → k < length xs → at xs k ≤ℤ v → at xs j ≤ℤ at (set xs k v) j
low_set xs k v j lt h = elim (at_set xs k v j lt) [
  | inl w ↦ (let e : at xs j ≡ at xs k = ap (at xs) w.0 in omega (arith, ints, w.1))
  | inr w ↦ omega (arith, ints, w.1)
]

pub high_set : (xs : List ℤ) (k : ℕ) (v : ℤ) (j : ℕ) → k < length xs → v ≤ℤ at xs k → at (set xs k v) j ≤ℤ at xs j
high_set xs k v j lt h = elim (at_set xs k v j lt) [
  | inl w ↦ (let e : at xs j ≡ at xs k = ap (at xs) w.0 in omega (arith, ints, w.1))
  | inr w ↦ omega (arith, ints, w.1)
]

pub some_set : (lows highs : List ℤ) (k : ℕ) (l h : ℤ) (j : ℕ) → k < length lows → k < length highs → at lows j ≤ℤ at highs j → l ≤ℤ h
    → at (set lows k l) j ≤ℤ at (set highs k h) j
some_set lows highs k l h j lt lt' o s = elim (at_set lows k l j lt) [
  | inl w ↦ elim (at_set highs k h j lt') [ inl v ↦ omega (arith, ints, w.1, v.1) | inr v ↦ absurd (v.0 w.0) ]
  | inr w ↦ elim (at_set highs k h j lt') [ inl v ↦ absurd (w.0 v.0) | inr v ↦ omega (arith, ints, w.1, v.1) ]
]

pub boxed_set : (lows highs : List ℤ) (k : ℕ) (l h : ℤ) → IsBoxed lows highs → k < length lows → at lows k ≤ℤ l → l ≤ℤ h → h ≤ℤ at highs k
    → IsBoxed (set lows k l) (set highs k h)
boxed_set lows highs k l h b lt low some high =
    let lt' : k < length highs = omega (arith, b.same) in
    let sl : IsAtMost (2 ^ 54) (at lows k) = b.low_small k (pos 0) lt in
    let sh : IsAtMost (2 ^ 54) (at highs k) = b.high_small k (pos 0) lt' in
    let a : IsAtMost (2 ^ 54) l = omega (arith, ints) in
    let a' : IsAtMost (2 ^ 54) h = omega (arith, ints) in
    record {
      few = simp length-set b.few;
      same = simp length-set b.same;
      low_small = All-set (IsAtMost (2 ^ 54)) lows k l a b.low_small;
      high_small = All-set (IsAtMost (2 ^ 54)) highs k h a' b.high_small;
      some = λ j lj. some_set lows highs k l h j lt lt' (b.some j (simp length-set at lj)) some;
    }

pub inside_set : (lows highs : List ℤ) (k : ℕ) (l h : ℤ) → IsBoxed lows highs → k < length lows → at lows k ≤ℤ l → h ≤ℤ at highs k
    → Inside lows highs (set lows k l) (set highs k h)
inside_set lows highs k l h b lt low high =
    let lt' : k < length highs = omega (arith, b.same) in
    record {
      same_lows = length-set lows k l;
      same_highs = length-set highs k h;
      low = λ j lj. low_set lows k l j lt low;
      high = λ j lj. high_set highs k h j lt' high;
    }

pub widths_set : (lows highs : List ℤ) (k : ℕ) (l h : ℤ) → k < length lows → length highs ≡ length lows
    → widths (set lows k l) (set highs k h) + unsigned_abs (at highs k -ℤ at lows k) ≡ widths lows highs + unsigned_abs (h -ℤ l)
widths_set [] highs k l h lt s = absurd (omega arith)
widths_set (x ∷ lows) [] k l h lt s = absurd (omega arith)
widths_set (x ∷ lows) (y ∷ highs) zero l h lt s = omega arith
widths_set (x ∷ lows) (y ∷ highs) (suc k) l h lt s =
    let r = widths_set lows highs k l h (omega arith) (omega arith) in omega (arith, r)

pub inside_same : (lows highs : List ℤ) → Inside lows highs lows highs
inside_same lows highs = record { same_lows = refl; same_highs = refl; low = λ k lt. omega (arith, ints); high = λ k lt. omega (arith, ints) }

pub inside_then : (a b c d e f : List ℤ) → Inside a b c d → Inside c d e f → Inside a b e f
inside_then a b c d e f i j = record {
  same_lows = j.same_lows ∙ i.same_lows;
  same_highs = j.same_highs ∙ i.same_highs;
  low = λ k lt. omega (arith, ints, i.low k lt, j.low k (omega (arith, i.same_lows)));
  high = λ k lt. omega (arith, ints, i.high k lt, j.high k (omega (arith, i.same_lows)));
}

pub in_each : (lows highs p : List ℤ) → length highs ≡ length lows → Within lows highs p → InEach lows highs p
in_each lows highs p s w = record { same = w.same; same_highs = s; low = w.low; high = w.high }

pub same_but_then : (k : ℕ) (xs ys zs : List ℤ) → IsSameFrom k xs ys → IsSameBut k ys zs → IsSameFrom (k + 1) xs zs
same_but_then k xs ys zs a b = record { other = λ j lt. b.other j (λ e. omega (arith, e)) ∙ a.other j (omega arith) }

pub near_step : (coefs : List ℤ) (slack : ℕ) (lows highs l h l' h' : List ℤ) (k : ℕ) → k < length lows
    → KeepsNear coefs slack lows highs l h → IsSameFrom k lows l → IsSameFrom k highs h → IsSameBut k l l' → IsSameBut k h h'
    → Inside lows highs l h → Inside l h l' h' → KeepsNumber (at coefs k) slack (at l k) (at h k) (at l' k) (at h' k) → KeepsNear coefs slack lows highs l' h'
near_step coefs slack lows highs l h l' h' k lt keeps sl sh bl bh i i' n = record {
  kept = λ p w near.
      let v = keeps.kept p w near in
      let lk : k < length l = omega (arith, i.same_lows) in
      let P : ℤ → ℤ → Type 0 = λ a b. peak (at coefs k) a b ≤ℤ (at coefs k *ℤ at p k +ℤ pos slack) in
      let near_k : P (at l k) (at h k) = rw (sl.other k (omega arith), sh.other k (omega arith)) (near.near k lt) in
      record {
        same = v.same ∙ sym i'.same_lows;
        low = λ j lj. elim (cases_eq j k) [
          | inl e ↦ (let Q : ℕ → Type 0 = λ x. at l' x ≤ℤ at p x in subst Q (sym e) (n.above (at p k) (v.low k lk) (v.high k lk) near_k))
          | inr d ↦ omega (arith, ints, bl.other j d, v.low j (omega (arith, i'.same_lows)))
        ];
        high = λ j lj. elim (cases_eq j k) [
          | inl e ↦ (let Q : ℕ → Type 0 = λ x. at p x ≤ℤ at h' x in subst Q (sym e) (n.below (at p k) (v.low k lk) (v.high k lk) near_k))
          | inr d ↦ omega (arith, ints, bh.other j d, v.high j (omega (arith, i'.same_lows)))
        ];
      };
}

pub widths_at_most : (lows highs : List ℤ) (k : ℕ) (l h : ℤ) → k < length lows → length highs ≡ length lows → at lows k ≤ℤ l → l ≤ℤ h → h ≤ℤ at highs k
    → widths (set lows k l) (set highs k h) ≤ widths lows highs
widths_at_most lows highs k l h lt s a b d = omega (arith, ints, widths_set lows highs k l h lt s)

pub widths_fewer : (lows highs : List ℤ) (k : ℕ) (l h : ℤ) → k < length lows → length highs ≡ length lows → unsigned_abs (h -ℤ l) < unsigned_abs (at highs k -ℤ at lows k)
    → widths (set lows k l) (set highs k h) < widths lows highs
widths_fewer lows highs k l h lt s a = omega (arith, widths_set lows highs k l h lt s)

pub same_but_set : (xs : List ℤ) (k : ℕ) (v : ℤ) → IsSameBut k xs (set xs k v)
same_but_set xs k v = record { other = λ j n. get_or-set_other xs k j v (pos 0) n }
