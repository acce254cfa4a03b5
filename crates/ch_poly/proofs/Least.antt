-- What a search over the first open variable keeps.
use Rattle.std.proofs.Common.{◌≡◌, ℕ, zero, suc, ◌+◌, ◌-◌, ◌*◌, ◌<◌, ◌≤◌, inl, inr, ℤ, pos, ◌+ℤ◌, ◌≤ℤ◌, ◌<ℤ◌, List, [], ◌∷◌, length, set, refl, sym, ap, ◌∙◌, subst, arith}
use Rattle.std.proofs.lemmas.Int.{ints, by_lt_z}
use Rattle.std.proofs.lemmas.Bool.{cases_lt}
use Rattle.std.proofs.lemmas.List.{length-set, get_or-set_same, set-get_or, ext_get_or}
use Rattle.std.proofs.Math.Nat.{mul-le-mul_left}
use Rattle.ch_poly.specs.Boxes.{at, widths, IsBoxed, Within, Inside}
use Rattle.ch_poly.specs.Goals.{Keeps, IsEmpty, IsLeast, NotAfter}
use Rattle.ch_poly.proofs.Meeting.{keeps_then}
use Rattle.ch_poly.proofs.Ranges.{at_set, high_set, boxed_set, inside_set, inside_then, widths_fewer}

pub not_after_at : (p q : List ℤ) (k : ℕ) → length p ≡ length q → k < length p → ((j : ℕ) → j < k → at p j ≡ at q j) → at p k <ℤ at q k → NotAfter p q
not_after_at [] q k e lt same less = tt
not_after_at (x ∷ p) [] k e lt same less = absurd (omega arith)
not_after_at (x ∷ p) (y ∷ q) zero e lt same less = inl less
not_after_at (x ∷ p) (y ∷ q) (suc k) e lt same less =
    inr (same 0 (omega arith), not_after_at p q k (omega arith) (omega arith) (λ j lj. same (suc j) (omega arith)) less)

pub not_after_same : (p q : List ℤ) → length p ≡ length q → ((j : ℕ) → j < length p → at p j ≡ at q j) → NotAfter p q
not_after_same [] q e same = tt
not_after_same (x ∷ p) [] e same = absurd (omega arith)
not_after_same (x ∷ p) (y ∷ q) e same = inr (same 0 (omega arith), not_after_same p q (omega arith) (λ j lj. same (suc j) (omega arith)))

pub within_outer : (a b c d p : List ℤ) → Inside a b c d → Within c d p → Within a b p
within_outer a b c d p i w = record {
  same = w.same ∙ i.same_lows;
  low = λ k lt. omega (arith, ints, i.low k lt, w.low k (omega (arith, i.same_lows)));
  high = λ k lt. omega (arith, ints, i.high k lt, w.high k (omega (arith, i.same_lows)));
}

pub keeps_same : (P : List ℤ → Type 0) (a b : List ℤ) → Keeps P a b a b
keeps_same P a b = record { kept = λ p w h. w }

-- a range of one number stays so
pub fixed_kept : (a b c d : List ℤ) (k : ℕ) → Inside a b c d → IsBoxed c d → k < length a → at a k ≡ at b k → at c k ≡ at d k
fixed_kept a b c d k i x lt e = omega (arith, ints, i.low k lt, i.high k lt, x.some k (omega (arith, i.same_lows)), e)

-- the box with the lowest number at k
pub lowest_boxed : (lows highs : List ℤ) (k : ℕ) → IsBoxed lows highs → k < length lows → IsBoxed lows (set highs k (at lows k))
lowest_boxed lows highs k b lt =
    let r = boxed_set lows highs k (at lows k) (at lows k) b lt (omega (arith, ints)) (omega (arith, ints)) (b.some k lt) in
    rw (set-get_or lows k (pos 0)) at r

pub lowest_fixed : (lows highs : List ℤ) (k j : ℕ) → k < length highs → ((i : ℕ) → i < k → at lows i ≡ at highs i) → j < k + 1 → at lows j ≡ at (set highs k (at lows k)) j
lowest_fixed lows highs k j lt same lj = elim (at_set highs k (at lows k) j lt) [
  | inl w ↦ ap (at lows) w.0 ∙ sym w.1
  | inr w ↦ same j (omega (arith, w.0)) ∙ sym w.1
]

pub lowest_within : (lows highs p : List ℤ) (k : ℕ) → IsBoxed lows highs → k < length lows → Within lows (set highs k (at lows k)) p → Within lows highs p
lowest_within lows highs p k b lt w =
    let lt' : k < length highs = omega (arith, b.same) in
    record {
      same = w.same;
      low = w.low;
      high = λ j lj. omega (arith, ints, w.high j lj, high_set highs k (at lows k) j lt' (b.some k lt));
    }

pub into_lowest : (lows highs p : List ℤ) (k : ℕ) → IsBoxed lows highs → k < length lows → Within lows highs p → at p k ≤ℤ at lows k → Within lows (set highs k (at lows k)) p
into_lowest lows highs p k b lt w h =
    let lt' : k < length highs = omega (arith, b.same) in
    record {
      same = w.same;
      low = w.low;
      high = λ j lj. elim (at_set highs k (at lows k) j lt') [
        | inl v ↦ (let e : at p j ≡ at p k = ap (at p) v.0 in omega (arith, ints, v.1))
        | inr v ↦ omega (arith, ints, v.1, w.high j lj)
      ];
    }

pub least_here : (P : List ℤ → Type 0) (a b lows highs p : List ℤ) (k : ℕ) → Inside a b lows highs → Keeps P a b lows highs → IsBoxed lows highs → k < length lows
    → ((j : ℕ) → j < k → at lows j ≡ at highs j) → IsLeast P lows (set highs k (at lows k)) p → IsLeast P a b p
least_here P a b lows highs p k i keeps box lt same m =
    let w = lowest_within lows highs p k box lt m.within in
    let pk : at p k ≤ℤ at lows k = (let e = get_or-set_same highs k (at lows k) (pos 0) (omega (arith, box.same)) in omega (arith, ints, e, m.within.high k lt)) in
    record {
      within = within_outer a b lows highs p i w;
      holds = m.holds;
      least = λ q v h.
          let u = keeps.kept q v h in
          by_lt_z (at lows k) (at q k)
          (λ less. not_after_at p q k (omega (arith, w.same, u.same)) (omega (arith, w.same))
          (λ j lj. (let lj' : j < length lows = omega arith in omega (arith, ints, same j lj, w.low j lj', w.high j lj', u.low j lj', u.high j lj')))
          (omega (arith, ints)))
          (λ more. m.least q (into_lowest lows highs q k box lt u more) h);
    }

-- the box with the lowest number at k left out
pub raised_boxed : (lows highs : List ℤ) (k : ℕ) (l : ℤ) → IsBoxed lows highs → k < length lows → l ≡ at lows k +ℤ pos 1 → (at lows k ≡ at highs k → ⊥) → IsBoxed (set lows k l) highs
raised_boxed lows highs k l b lt e ne =
    let s = b.some k lt in
    let up : l ≤ℤ at highs k = by_lt_z (at lows k) (at highs k) (λ less. omega (arith, ints, less)) (λ more. absurd (ne (omega (arith, ints, more, s)))) in
    let r = boxed_set lows highs k l (at highs k) b lt (omega (arith, ints)) up (omega (arith, ints)) in
    rw (set-get_or highs k (pos 0)) at r

pub raised_inside : (lows highs : List ℤ) (k : ℕ) (l : ℤ) → IsBoxed lows highs → k < length lows → l ≡ at lows k +ℤ pos 1 → Inside lows highs (set lows k l) highs
raised_inside lows highs k l b lt e =
    let r = inside_set lows highs k l (at highs k) b lt (omega (arith, ints)) (omega (arith, ints)) in
    rw (set-get_or highs k (pos 0)) at r

pub raised_fewer : (lows highs : List ℤ) (k : ℕ) (l : ℤ) → IsBoxed lows highs → k < length lows → l ≡ at lows k +ℤ pos 1 → (at lows k ≡ at highs k → ⊥) → widths (set lows k l) highs < widths lows highs
raised_fewer lows highs k l b lt e ne =
    let s = b.some k lt in
    let less : at lows k <ℤ at highs k = by_lt_z (at lows k) (at highs k) (λ less. less) (λ more. absurd (ne (omega (arith, ints, more, s)))) in
    let r = widths_fewer lows highs k l (at highs k) lt b.same (omega (arith, ints)) in
    rw (set-get_or highs k (pos 0)) at r

pub raised_keeps : (P : List ℤ → Type 0) (a b lows highs : List ℤ) (k : ℕ) (l : ℤ) → Keeps P a b lows highs → IsBoxed lows highs → k < length lows → l ≡ at lows k +ℤ pos 1
    → IsEmpty P lows (set highs k (at lows k)) → Keeps P a b (set lows k l) highs
raised_keeps P a b lows highs k l keeps box lt e none = record {
  kept = λ p v h.
      let w = keeps.kept p v h in
      let up : l ≤ℤ at p k = by_lt_z (at lows k) (at p k) (λ less. omega (arith, ints, less)) (λ more. absurd (none.none p (into_lowest lows highs p k box lt w more) h)) in
      record {
        same = w.same ∙ sym (length-set lows k l);
        low = λ j lj. elim (at_set lows k l j lt) [
          | inl u ↦ (let f : at p j ≡ at p k = ap (at p) u.0 in omega (arith, ints, u.1))
          | inr u ↦ omega (arith, ints, u.1, w.low j (simp length-set at lj))
        ];
        high = λ j lj. w.high j (simp length-set at lj);
      };
}

-- a box of one point
pub only_point : (lows highs q : List ℤ) → ((j : ℕ) → j < length lows → at lows j ≡ at highs j) → Within lows highs q → q ≡ lows
only_point lows highs q same w =
    ext_get_or (pos 0) q lows w.same (λ j lj. (let lj' : j < length lows = omega (arith, w.same) in omega (arith, ints, same j lj', w.low j lj', w.high j lj')))

pub least_only : (P : List ℤ → Type 0) (a b lows highs : List ℤ) → Inside a b lows highs → Keeps P a b lows highs → IsBoxed lows highs
    → ((j : ℕ) → j < length lows → at lows j ≡ at highs j) → P lows → IsLeast P a b lows
least_only P a b lows highs i keeps box same h =
    let w : Within lows highs lows = record { same = refl; low = λ k lt. omega (arith, ints); high = λ k lt. box.some k lt } in
    record {
      within = within_outer a b lows highs lows i w;
      holds = h;
      least = λ q v g. (let e = only_point lows highs q same (keeps.kept q v g) in not_after_same lows q (sym (ap length e)) (λ j lj. ap (λ xs. at xs j) (sym e)));
    }

pub empty_only : (P : List ℤ → Type 0) (a b lows highs : List ℤ) → Keeps P a b lows highs
    → ((j : ℕ) → j < length lows → at lows j ≡ at highs j) → (P lows → ⊥) → IsEmpty P a b
empty_only P a b lows highs keeps same never = record {
  none = λ q v g. never (subst P (only_point lows highs q same (keeps.kept q v g)) g);
}

pub room_left : (n from k room : ℕ) → from ≤ k → k < n → 2 * n * (n - from) ≤ room → 2 * n * (n - (k + 1)) + 2 * n ≤ room
room_left n from k room f lt h =
    let d : ℕ = n - (k + 1) in
    let g : d + 1 ≤ n - from = omega arith in
    omega (arith, mul-le-mul_left (2 * n) g)

-- what the search knows of its box, by the box it began with
pub record Reached (P : List ℤ → Type 0) (a b lows highs : List ℤ) : Type 0 where
  pub boxed : IsBoxed lows highs
  pub inside : Inside a b lows highs
  pub keeps : Keeps P a b lows highs

pub reached_then : (P : List ℤ → Type 0) (a b c d e f : List ℤ) → Inside a b c d → Keeps P a b c d → IsBoxed e f → Inside c d e f → Keeps P c d e f → Reached P a b e f
reached_then P a b c d e f i k box i' k' = record { boxed = box; inside = inside_then a b c d e f i i'; keeps = keeps_then P a b c d e f k k' }

pub prefix_fixed : (a b c d : List ℤ) (from k : ℕ) → Inside a b c d → IsBoxed c d → k ≤ length c → ((j : ℕ) → j < from → at a j ≡ at b j) → ((j : ℕ) → from ≤ j → j < k → at c j ≡ at d j)
    → (j : ℕ) → j < k → at c j ≡ at d j
prefix_fixed a b c d from k i box le fixed before j lj = elim (cases_lt j from) [
  | inl l ↦ fixed_kept a b c d j i box (omega (arith, i.same_lows)) (fixed j l)
  | inr l ↦ before j l lj
]
