-- Boxes whose first ranges are single numbers.
use Rattle.std.proofs.Common.{◌≡◌, ℕ, zero, suc, ◌+◌, ◌<◌, ◌≤◌, ◌^◌, inl, inr, ℤ, pos, ◌≤ℤ◌, Bool, true, false, ◌&&◌, ◌||◌, cond, List, [], ◌∷◌, length, set, int_eq, refl, sym, ap, ◌∙◌, subst, arith}
use Rattle.std.specs.List.{filter, list_any}
use Rattle.std.proofs.lemmas.Int.{ints}
use Rattle.std.proofs.lemmas.Bool.{cases_eq, cases_lt}
use Rattle.std.proofs.lemmas.List.{length-set}
use Rattle.std.proofs.lemmas.List.Elements.{All-from_get_or}
use Rattle.ch_affine.specs.Affine.{IsAtMost}
use Rattle.ch_affine.specs.Rows.{Rows, all_hold}
use Rattle.ch_poly.specs.Points.{begins, points, box_points}
use Rattle.ch_poly.specs.Boxes.{at, IsBoxed, Within}
use Rattle.ch_poly.specs.Fixed.{IsFixed, Begins, HasPoint}
use Rattle.ch_poly.proofs.Ranges.{at_set}
use Rattle.ch_poly.proofs.Firsts.{lows_of, highs_of, none_all, some_all, from_within, to_within, holds_true, true_holds}

pub fixed_none : (fixed lows highs : List ℤ) → IsFixed 0 fixed lows highs lows highs
fixed_none fixed lows highs = record {
  same_lows = refl;
  same_highs = refl;
  front_low = λ k lt. absurd (omega arith);
  front_high = λ k lt. absurd (omega arith);
  in_low = λ k lt. absurd (omega arith);
  in_high = λ k lt. absurd (omega arith);
  back_low = λ k le. refl;
  back_high = λ k le. refl;
}

pub set_front : (fixed xs : List ℤ) (n : ℕ) → n < length xs → ((k : ℕ) → k < n → at xs k ≡ at fixed k) → (k : ℕ) → k < n + 1 → at (set xs n (at fixed n)) k ≡ at fixed k
set_front fixed xs n lt h k lk = elim (at_set xs n (at fixed n) k lt) [
  | inl w ↦ w.1 ∙ ap (at fixed) (sym w.0)
  | inr w ↦ w.1 ∙ h k (omega (arith, w.0))
]

pub set_back : (xs ys : List ℤ) (n : ℕ) (v : ℤ) → n < length xs → ((k : ℕ) → n ≤ k → at xs k ≡ at ys k) → (k : ℕ) → n + 1 ≤ k → at (set xs n v) k ≡ at ys k
set_back xs ys n v lt h k lk = elim (at_set xs n v k lt) [ inl w ↦ absurd (omega (arith, w.0)) | inr w ↦ w.1 ∙ h k (omega arith) ]

pub up_to : (fixed xs : List ℤ) (P : ℤ → ℤ → Type 0) (n : ℕ) → ((k : ℕ) → k < n → P (at xs k) (at fixed k)) → P (at xs n) (at fixed n) → (k : ℕ) → k < n + 1 → P (at xs k) (at fixed k)
up_to fixed xs P n h here k lt = elim (cases_eq k n) [
  | inl e ↦ (let Q : ℕ → Type 0 = λ j. P (at xs j) (at fixed j) in subst Q (sym e) here)
  | inr d ↦ h k (omega (arith, d))
]

pub fixed_step : (n : ℕ) (fixed lows highs l h : List ℤ) → IsFixed n fixed lows highs l h → n < length lows → n < length highs → at l n ≤ℤ at fixed n → at fixed n ≤ℤ at h n
    → IsFixed (n + 1) fixed lows highs (set l n (at fixed n)) (set h n (at fixed n))
fixed_step n fixed lows highs l h f ll lh a b =
    let ll' : n < length l = omega (arith, f.same_lows) in
    let lh' : n < length h = omega (arith, f.same_highs) in
    let x : at lows n ≤ℤ at fixed n = omega (arith, ints, a, f.back_low n (omega arith)) in
    let y : at fixed n ≤ℤ at highs n = omega (arith, ints, b, f.back_high n (omega arith)) in
    record {
      same_lows = length-set l n (at fixed n) ∙ f.same_lows;
      same_highs = length-set h n (at fixed n) ∙ f.same_highs;
      front_low = set_front fixed l n ll' f.front_low;
      front_high = set_front fixed h n lh' f.front_high;
      in_low = up_to fixed lows (λ p q. p ≤ℤ q) n f.in_low x;
      in_high = up_to fixed highs (λ p q. q ≤ℤ p) n f.in_high y;
      back_low = set_back l lows n (at fixed n) ll' f.back_low;
      back_high = set_back h highs n (at fixed n) lh' f.back_high;
    }

pub fixed_boxed : (n : ℕ) (fixed lows highs l h : List ℤ) → IsFixed n fixed lows highs l h → IsBoxed lows highs → IsBoxed l h
fixed_boxed n fixed lows highs l h f b =
    let small : (k : ℕ) → k < length lows → (IsAtMost (2 ^ 54) (at l k)) × (IsAtMost (2 ^ 54) (at h k)) × (at l k ≤ℤ at h k) =
    λ (k : ℕ) (lt : k < length lows).
    (let lt' : k < length highs = omega (arith, b.same) in
    let u : IsAtMost (2 ^ 54) (at lows k) = b.low_small k (pos 0) lt in
    let v : IsAtMost (2 ^ 54) (at highs k) = b.high_small k (pos 0) lt' in
    elim (cases_lt k n) [
      | inl c ↦ (omega (arith, ints, f.front_low k c, f.in_low k c, f.in_high k c), omega (arith, ints, f.front_high k c, f.in_low k c, f.in_high k c), omega (arith, ints, f.front_low k c, f.front_high k c))
      | inr c ↦ (omega (arith, ints, f.back_low k c), omega (arith, ints, f.back_high k c), omega (arith, ints, f.back_low k c, f.back_high k c, b.some k lt))
    ]) in
    record {
      few = omega (arith, b.few, f.same_lows);
      same = omega (arith, b.same, f.same_lows, f.same_highs);
      low_small = All-from_get_or (IsAtMost (2 ^ 54)) l (pos 0) (λ k lt. (small k (omega (arith, f.same_lows))).0);
      high_small = All-from_get_or (IsAtMost (2 ^ 54)) h (pos 0) (λ k lt. (small k (omega (arith, f.same_highs, b.same))).1);
      some = λ k lt. (small k (omega (arith, f.same_lows))).2;
    }

pub fixed_out : (fixed lows highs l h p : List ℤ) → IsFixed (length fixed) fixed lows highs l h → length fixed ≤ length lows → Within l h p → (Within lows highs p) × Begins fixed p
fixed_out fixed lows highs l h p f le w = (
  record {
    same = w.same ∙ f.same_lows;
    low = λ k lt. (let a = w.low k (omega (arith, f.same_lows)) in elim (cases_lt k (length fixed)) [
      | inl c ↦ omega (arith, ints, a, f.front_low k c, f.in_low k c)
      | inr c ↦ omega (arith, ints, a, f.back_low k c)
    ]);
    high = λ k lt. (let a = w.high k (omega (arith, f.same_lows)) in elim (cases_lt k (length fixed)) [
      | inl c ↦ omega (arith, ints, a, f.front_high k c, f.in_high k c)
      | inr c ↦ omega (arith, ints, a, f.back_high k c)
    ]);
  },
  record {
    each = λ k lt. omega (arith, ints, w.low k (omega (arith, f.same_lows)), w.high k (omega (arith, f.same_lows)), f.front_low k lt, f.front_high k lt);
  },
)

pub fixed_in : (fixed lows highs l h p : List ℤ) → IsFixed (length fixed) fixed lows highs l h → Within lows highs p → Begins fixed p → Within l h p
fixed_in fixed lows highs l h p f w b = record {
  same = w.same ∙ sym f.same_lows;
  low = λ k lt. (let a = w.low k (omega (arith, f.same_lows)) in elim (cases_lt k (length fixed)) [
    | inl c ↦ omega (arith, ints, f.front_low k c, b.each k c)
    | inr c ↦ omega (arith, ints, a, f.back_low k c)
  ]);
  high = λ k lt. (let a = w.high k (omega (arith, f.same_lows)) in elim (cases_lt k (length fixed)) [
    | inl c ↦ omega (arith, ints, f.front_high k c, b.each k c)
    | inr c ↦ omega (arith, ints, a, f.back_high k c)
  ]);
}

pub split_true : (a b : Bool) → cond a b false ≡ true → (a ≡ true) × (b ≡ true)
split_true true b t = (refl, t)
split_true false b t = cc

pub both_true : (a b : Bool) → (a && b) ≡ true → (a ≡ true) × (b ≡ true)
both_true true b t = (refl, t)
both_true false b t = cc

pub same_ints : (x y : ℤ) → int_eq x y ≡ true → x ≡ y
same_ints x y t = grind (arith, ints)

pub ints_same : (x y : ℤ) → x ≡ y → int_eq x y ≡ true
ints_same x y t = grind (arith, ints)

pub begins_at : (x y : ℤ) (fixed p : List ℤ) → x ≡ y → ((k : ℕ) → k < length fixed → at p k ≡ at fixed k) → (k : ℕ) → k < suc (length fixed) → at (y ∷ p) k ≡ at (x ∷ fixed) k
begins_at x y fixed p e h zero lt = sym e
begins_at x y fixed p e h (suc k) lt = h k (omega arith)

pub true_begins : (fixed p : List ℤ) → begins fixed p ≡ true → Begins fixed p
true_begins [] p t = record { each = λ k lt. absurd (omega arith) }
true_begins (x ∷ fixed) [] t = cc
true_begins (x ∷ fixed) (y ∷ p) t =
    let r = both_true (int_eq x y) (begins fixed p) t in
    let b = true_begins fixed p r.1 in
    record { each = begins_at x y fixed p (same_ints x y r.0) b.each }

pub begins_true : (fixed p : List ℤ) → length fixed ≤ length p → Begins fixed p → begins fixed p ≡ true
begins_true [] p le b = refl
begins_true (x ∷ fixed) [] le b = absurd (omega arith)
begins_true (x ∷ fixed) (y ∷ p) le b =
    ap (λ t. t && begins fixed p) (ints_same x y (sym (b.each 0 (omega arith))))
    ∙ begins_true fixed p (omega arith) (record { each = λ k lt. b.each (suc k) (omega arith) })

pub twice_at : (f : List ℤ → Bool) (b : Bool) (p : List ℤ) (qs rs : List (List ℤ)) → filter f qs ≡ rs → filter f (cond b (p ∷ qs) qs) ≡ cond (cond b (f p) false) (p ∷ rs) rs
twice_at f true p qs rs e = ap (λ r. cond (f p) (p ∷ r) r) e
twice_at f false p qs rs e = e

pub filter_twice : (f g : List ℤ → Bool) (ps : List (List ℤ)) → filter f (filter g ps) ≡ filter (λ p. cond (g p) (f p) false) ps
filter_twice f g [] = refl
filter_twice f g (p ∷ ps) = twice_at f (g p) p _ _ (filter_twice f g ps)

pub has_some : (s : Rows) (fixed : List ℤ) → length fixed ≤ length (lows_of s.boxes) → HasPoint s.rows fixed (lows_of s.boxes) (highs_of s.boxes) → filter (begins fixed) (points s) ≡ [] → ⊥
has_some s fixed le h e =
    some_all s.boxes (λ p. cond (all_hold s.rows p) (begins fixed p) false) h.point (from_within s.boxes h.point h.within)
    (ap (λ t. cond t (begins fixed h.point) false) (holds_true s.rows h.point h.holds) ∙ begins_true fixed h.point (omega (arith, h.within.same)) h.begins)
    (sym (filter_twice (begins fixed) (all_hold s.rows) (box_points s.boxes)) ∙ e)

pub has_none : (s : Rows) (fixed : List ℤ) → (HasPoint s.rows fixed (lows_of s.boxes) (highs_of s.boxes) → ⊥) → filter (begins fixed) (points s) ≡ []
has_none s fixed never =
    filter_twice (begins fixed) (all_hold s.rows) (box_points s.boxes)
    ∙ none_all s.boxes (λ p. cond (all_hold s.rows p) (begins fixed p) false)
    (λ p i t. (let r = split_true (all_hold s.rows p) (begins fixed p) t in
    never (record { point = p; within = to_within s.boxes p i; holds = true_holds s.rows p r.0; begins = true_begins fixed p r.1 })))

any_none : (test : List ℤ → Bool) (ps : List (List ℤ)) → filter test ps ≡ [] → list_any test ps ≡ false
any_none test [] e = refl
any_none test (p ∷ ps) e = elim (test p) as (λ b. cond b (p ∷ filter test ps) (filter test ps) ≡ [] → (b || list_any test ps) ≡ false) [
  | true ↦ λ f. absurd cc
  | false ↦ λ f. any_none test ps f
] e

any_some : (test : List ℤ → Bool) (ps : List (List ℤ)) → (filter test ps ≡ [] → ⊥) → list_any test ps ≡ true
any_some test [] some = absurd (some refl)
any_some test (p ∷ ps) some = elim (test p) as (λ b. (cond b (p ∷ filter test ps) (filter test ps) ≡ [] → ⊥) → (b || list_any test ps) ≡ true) [
  | true ↦ λ f. refl
  | false ↦ λ f. any_some test ps f
] some

same_answer : (b c : Bool) → (b ≡ true → c ≡ true) → (b ≡ false → c ≡ false) → b ≡ c
same_answer true c if_true if_false = sym (if_true refl)
same_answer false c if_true if_false = sym (if_false refl)

pub has_point_is : (s : Rows) (fixed : List ℤ) (found : Bool) → length fixed ≤ length (lows_of s.boxes)
    → (found ≡ true → HasPoint s.rows fixed (lows_of s.boxes) (highs_of s.boxes))
    → (found ≡ false → HasPoint s.rows fixed (lows_of s.boxes) (highs_of s.boxes) → ⊥)
    → found ≡ list_any (begins fixed) (points s)
has_point_is s fixed found few if_found if_not =
    same_answer found (list_any (begins fixed) (points s))
    (λ t. any_some (begins fixed) (points s) (has_some s fixed few (if_found t)))
    (λ t. any_none (begins fixed) (points s) (has_none s fixed (if_not t)))
