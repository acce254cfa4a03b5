-- From what a search says of a form's values to the greatest and the least of them.
use Rattle.std.proofs.Common.{◌≡◌, ◌*◌, ◌^◌, ◌<◌, ◌≤◌, ◌⊎◌, inl, inr, ℤ, pos, ◌-ℤ◌, ◌*ℤ◌, int_lt, int_eq, MatchOption, ◌≤ℤ◌, neg_ℤ, unsigned_abs, true, false, cond, List, [], ◌∷◌, length, map, Option, Some, None, refl, sym, ap, ◌∙◌, arith}
use Rattle.std.specs.List.{All, filter, fold}
use Rattle.std.specs.Int.{int_max, int_min}
use Rattle.std.proofs.lemmas.Int.{ints, clamps, by_lt_z, unsigned_abs-mul}
use Rattle.std.proofs.lemmas.List.Elements.{All-nil, All-cons, All-head, All-tail, All-from_get_or}
use Rattle.std.proofs.Math.Nat.{mul-le-mul}
use Rattle.ch_affine.specs.Form.{Form}
use Rattle.ch_affine.specs.Negatives.{negative}
use Rattle.ch_affine.proofs.Negated.{value_negative}
use Rattle.ch_affine.specs.Affine.{IsAtMost, IsSmall, dot, value}
use Rattle.ch_affine.specs.Rows.{Rows, all_hold}
use Rattle.ch_poly.specs.Boxes.{at, greatest, Within, IsBoxed}
use Rattle.ch_poly.specs.Goals.{Reaches, Meets, IsEmpty}
use Rattle.ch_poly.specs.Points.{points, box_points, least_of, greatest_of}
use Rattle.ch_poly.specs.Extremes.{HasValue, IsBelow, IsGreatest}
use Rattle.ch_poly.proofs.Fixes.{filter_twice, split_true, same_ints, ints_same}
use Rattle.ch_poly.proofs.Peaks.{dot_le}
use Rattle.ch_poly.proofs.Ranges.{in_each}
use Rattle.ch_poly.proofs.Firsts.{lows_of, highs_of, none_all, some_all, from_within, to_within, holds_true, true_holds, empty_is_none}

not_less : (x y : ℤ) → int_lt x y ≡ false → y ≤ℤ x
not_less x y t = grind (arith, ints)

less_not : (x y : ℤ) → int_lt x y ≡ true → y ≤ℤ x → ⊥
less_not x y t h = grind (arith, ints)

-- each number of a list is at most this one; some number is this one
abbrev pub AllUnder : ℤ → List ℤ → Type 0
AllUnder v [] = Unit {0}
AllUnder v (z ∷ zs) = (z ≤ℤ v) × AllUnder v zs

abbrev pub AllOver : ℤ → List ℤ → Type 0
AllOver v [] = Unit {0}
AllOver v (z ∷ zs) = (v ≤ℤ z) × AllOver v zs

abbrev pub Somewhere : ℤ → List ℤ → Type 0
Somewhere v [] = ⊥
Somewhere v (z ∷ zs) = (z ≡ v) ⊎ Somewhere v zs

fold_greatest : (v z : ℤ) (zs : List ℤ) → z ≤ℤ v → AllUnder v zs → (z ≡ v) ⊎ Somewhere v zs → fold int_max z zs ≡ v
fold_greatest v z [] le all (inl e) = e
fold_greatest v z [] le all (inr s) = absurd s
fold_greatest v z (y ∷ zs) le all (inl e) = fold_greatest v (int_max z y) zs (omega (arith, ints, clamps, all.0)) all.1 (inl (omega (arith, ints, clamps, all.0)))
fold_greatest v z (y ∷ zs) le all (inr (inl e)) = fold_greatest v (int_max z y) zs (omega (arith, ints, clamps, all.0)) all.1 (inl (omega (arith, ints, clamps, all.0)))
fold_greatest v z (y ∷ zs) le all (inr (inr s)) = fold_greatest v (int_max z y) zs (omega (arith, ints, clamps, all.0)) all.1 (inr s)

fold_least : (v z : ℤ) (zs : List ℤ) → v ≤ℤ z → AllOver v zs → (z ≡ v) ⊎ Somewhere v zs → fold int_min z zs ≡ v
fold_least v z [] le all (inl e) = e
fold_least v z [] le all (inr s) = absurd s
fold_least v z (y ∷ zs) le all (inl e) = fold_least v (int_min z y) zs (omega (arith, ints, clamps, all.0)) all.1 (inl (omega (arith, ints, clamps, all.0)))
fold_least v z (y ∷ zs) le all (inr (inl e)) = fold_least v (int_min z y) zs (omega (arith, ints, clamps, all.0)) all.1 (inl (omega (arith, ints, clamps, all.0)))
fold_least v z (y ∷ zs) le all (inr (inr s)) = fold_least v (int_min z y) zs (omega (arith, ints, clamps, all.0)) all.1 (inr s)

greatest_is_of : (v : ℤ) (zs : List ℤ) → AllUnder v zs → Somewhere v zs → greatest_of zs ≡ Some v
greatest_is_of v [] all s = absurd s
greatest_is_of v (z ∷ zs) all s = ap (λ y. Some y) (fold_greatest v z zs all.0 all.1 s)

least_is_of : (v : ℤ) (zs : List ℤ) → AllOver v zs → Somewhere v zs → least_of zs ≡ Some v
least_is_of v [] all s = absurd s
least_is_of v (z ∷ zs) all s = ap (λ y. Some y) (fold_least v z zs all.0 all.1 s)

none_above : (g : List ℤ → ℤ) (v : ℤ) (ps : List (List ℤ)) → filter (λ p. int_lt v (g p)) ps ≡ [] → AllUnder v (map g ps)
none_above g v [] e = tt
none_above g v (p ∷ ps) e = elim (int_lt v (g p)) as (λ b. int_lt v (g p) ≡ b → cond b (p ∷ filter (λ q. int_lt v (g q)) ps) (filter (λ q. int_lt v (g q)) ps) ≡ [] → AllUnder v (map g (p ∷ ps))) [
  | true ↦ λ t f. absurd cc
  | false ↦ λ t f. (not_less v (g p) t, none_above g v ps f)
] refl e

none_below : (g : List ℤ → ℤ) (v : ℤ) (ps : List (List ℤ)) → filter (λ p. int_lt (g p) v) ps ≡ [] → AllOver v (map g ps)
none_below g v [] e = tt
none_below g v (p ∷ ps) e = elim (int_lt (g p) v) as (λ b. int_lt (g p) v ≡ b → cond b (p ∷ filter (λ q. int_lt (g q) v) ps) (filter (λ q. int_lt (g q) v) ps) ≡ [] → AllOver v (map g (p ∷ ps))) [
  | true ↦ λ t f. absurd cc
  | false ↦ λ t f. (not_less (g p) v t, none_below g v ps f)
] refl e

some_equal : (g : List ℤ → ℤ) (v : ℤ) (ps : List (List ℤ)) → (filter (λ p. int_eq (g p) v) ps ≡ [] → ⊥) → Somewhere v (map g ps)
some_equal g v [] some = some refl
some_equal g v (p ∷ ps) some = elim (int_eq (g p) v) as (λ b. int_eq (g p) v ≡ b → (cond b (p ∷ filter (λ q. int_eq (g q) v) ps) (filter (λ q. int_eq (g q) v) ps) ≡ [] → ⊥) → Somewhere v (map g (p ∷ ps))) [
  | true ↦ λ t f. inl (same_ints (g p) v t)
  | false ↦ λ t f. inr (some_equal g v ps f)
] refl some

-- the points of a system, by the box and the rows
module _ (s : Rows) (f : Form) (v : ℤ) where
  under_points : IsBelow (Reaches (pos 0) s.rows) f v (lows_of s.boxes) (highs_of s.boxes) → AllUnder v (map (value f) (points s))
  under_points b =
      none_above (value f) v (points s) (
      filter_twice (λ p. int_lt v (value f p)) (all_hold s.rows) (box_points s.boxes)
      ∙ none_all s.boxes (λ p. cond (all_hold s.rows p) (int_lt v (value f p)) false)
      (λ p i t. (let r = split_true (all_hold s.rows p) (int_lt v (value f p)) t in
      less_not v (value f p) r.1 (b.each p (to_within s.boxes p i) (true_holds s.rows p r.0)))))

  over_points : ((p : List ℤ) → Within (lows_of s.boxes) (highs_of s.boxes) p → Reaches (pos 0) s.rows p → v ≤ℤ value f p) → AllOver v (map (value f) (points s))
  over_points b =
      none_below (value f) v (points s) (
      filter_twice (λ p. int_lt (value f p) v) (all_hold s.rows) (box_points s.boxes)
      ∙ none_all s.boxes (λ p. cond (all_hold s.rows p) (int_lt (value f p) v) false)
      (λ p i t. (let r = split_true (all_hold s.rows p) (int_lt (value f p) v) t in
      less_not (value f p) v r.1 (b p (to_within s.boxes p i) (true_holds s.rows p r.0)))))

  some_point : HasValue (Reaches (pos 0) s.rows) f v (lows_of s.boxes) (highs_of s.boxes) → Somewhere v (map (value f) (points s))
  some_point h =
      some_equal (value f) v (points s) (λ e.
      some_all s.boxes (λ p. cond (all_hold s.rows p) (int_eq (value f p) v) false) h.point (from_within s.boxes h.point h.within)
      (ap (λ t. cond t (int_eq (value f h.point) v) false) (holds_true s.rows h.point h.holds) ∙ ints_same (value f h.point) v h.is)
      (sym (filter_twice (λ p. int_eq (value f p) v) (all_hold s.rows) (box_points s.boxes)) ∙ e))

pub no_greatest : (s : Rows) (f : Form) → IsEmpty (Reaches (pos 0) s.rows) (lows_of s.boxes) (highs_of s.boxes) → None ≡ greatest_of (map (value f) (points s))
no_greatest s f e = sym (ap (λ ps. greatest_of (map (value f) ps)) (empty_is_none s e))

pub no_least : (s : Rows) (f : Form) → IsEmpty (Reaches (pos 0) s.rows) (lows_of s.boxes) (highs_of s.boxes) → None ≡ least_of (map (value f) (points s))
no_least s f e = sym (ap (λ ps. least_of (map (value f) ps)) (empty_is_none s e))

pub greatest_answer : (s : Rows) (f : Form) (r : Option ℤ)
    → MatchOption r (IsEmpty (Reaches (pos 0) s.rows) (lows_of s.boxes) (highs_of s.boxes)) (λ v. IsGreatest (Reaches (pos 0) s.rows) f v (lows_of s.boxes) (highs_of s.boxes))
    → r ≡ greatest_of (map (value f) (points s))
greatest_answer s f None e = no_greatest s f e
greatest_answer s f (Some v) g = sym (greatest_is_of v (map (value f) (points s)) (under_points s f v g.below) (some_point s f v g.has))

pub least_answer : (s : Rows) (f : Form) (v : ℤ) → IsGreatest (Reaches (pos 0) s.rows) (negative f) v (lows_of s.boxes) (highs_of s.boxes)
    → Some (neg_ℤ v) ≡ least_of (map (value f) (points s))
least_answer s f v g =
    sym (least_is_of (neg_ℤ v) (map (value f) (points s))
    (over_points s f (neg_ℤ v) (λ p w h. omega (arith, ints, value_negative f p, g.below.each p w h)))
    (some_point s f (neg_ℤ v) (record { point = g.has.point; within = g.has.within; holds = g.has.holds; is = omega (arith, ints, value_negative f g.has.point, g.has.is) })))

-- how large a value can be
pub small_point : (lows highs p : List ℤ) → IsBoxed lows highs → Within lows highs p → All (IsAtMost (2 ^ 54)) p
small_point lows highs p b w =
    All-from_get_or (IsAtMost (2 ^ 54)) p (pos 0) (λ k lt.
    (let in_lows : k < length lows = omega (arith, w.same) in
    let in_highs : k < length highs = omega (arith, w.same, b.same) in
    let low : IsAtMost (2 ^ 54) (at lows k) = b.low_small k (pos 0) in_lows in
    let high : IsAtMost (2 ^ 54) (at highs k) = b.high_small k (pos 0) in_highs in
    omega (arith, ints, low, high, w.low k in_lows, w.high k in_lows)))

term_bound : (c x : ℤ) → IsAtMost (2 ^ 60) c → IsAtMost (2 ^ 54) x → unsigned_abs (c *ℤ x) ≤ 2 ^ 114
term_bound c x hc hx = rw unsigned_abs-mul (mul-le-mul hc hx)

dot_bound : (cs xs : List ℤ) → All (IsAtMost (2 ^ 60)) cs → All (IsAtMost (2 ^ 54)) xs → unsigned_abs (dot cs xs) ≤ length cs * 2 ^ 114
dot_bound [] xs a b = omega arith
dot_bound (c ∷ cs) [] a b = omega arith
dot_bound (c ∷ cs) (x ∷ xs) a b =
    let here = term_bound c x (All-head (IsAtMost (2 ^ 60)) c cs a) (All-head (IsAtMost (2 ^ 54)) x xs b) in
    let more = dot_bound cs xs (All-tail (IsAtMost (2 ^ 60)) c cs a) (All-tail (IsAtMost (2 ^ 54)) x xs b) in
    omega (arith, ints, here, more)

pub value_bound : (P : List ℤ → Type 0) (f : Form) (v : ℤ) (lows highs : List ℤ) → IsSmall f → IsBoxed lows highs → HasValue P f v lows highs → unsigned_abs v < 2 ^ 127
value_bound P f v lows highs s b h =
    let d = dot_bound f.coefs h.point s.coefs (small_point lows highs h.point b h.within) in
    omega (arith, ints, d, s.few, s.constant, h.is)

-- a search among the rows and with a bound
pub rows_have : (rows tops : List Form) (bound : ℤ) (f : Form) (v : ℤ) (lows highs : List ℤ) → HasValue (Meets rows tops bound) f v lows highs → HasValue (Reaches (pos 0) rows) f v lows highs
rows_have rows tops bound f v lows highs h = record { point = h.point; within = h.within; holds = h.holds.by_rows; is = h.is }

pub below_box : (P : List ℤ → Type 0) (f : Form) (lows highs : List ℤ) → length f.coefs ≡ length lows → length highs ≡ length lows → IsBelow P f (greatest f lows highs) lows highs
below_box P f lows highs s s' = record { each = λ p w h. omega (arith, ints, dot_le f.coefs lows highs p s (in_each lows highs p s' w)) }

pub below_none : (rows : List Form) (f : Form) (middle : ℤ) (lows highs : List ℤ) → IsEmpty (Meets rows (f ∷ []) middle) lows highs
    → IsBelow (Reaches (pos 0) rows) f (middle -ℤ pos 1) lows highs
below_none rows f middle lows highs e = record {
  each = λ p w h. by_lt_z (value f p) middle
      (λ less. omega (arith, ints, less))
      (λ more. absurd (e.none p w (record {
        by_rows = h;
        by_tops = record { each = All-cons (λ g. middle ≤ℤ value g p) f [] more (All-nil (λ g. middle ≤ℤ value g p)) };
      })));
}

pub in_order : (P : List ℤ → Type 0) (f : Form) (low high : ℤ) (lows highs : List ℤ) → HasValue P f low lows highs → IsBelow P f high lows highs → low ≤ℤ high
in_order P f low high lows highs h b = omega (arith, ints, h.is, b.each h.point h.within h.holds)

pub reaches_bound : (rows : List Form) (f : Form) (middle v : ℤ) (lows highs : List ℤ) → HasValue (Meets rows (f ∷ []) middle) f v lows highs → middle ≤ℤ v
reaches_bound rows f middle v lows highs h = omega (arith, ints, h.is, h.holds.by_tops.each 0 f (omega arith))
