-- The ends of loops, and how many turns they leave.
use Rattle.std.proofs.Common.{◌≡◌, ap, ap₂, sym, ◌∙◌, refl, subst, ℕ, zero, suc, ◌+◌, ◌*◌, ◌/◌, ◌-◌, ◌<◌, ◌≤◌, ◌^◌, ℤ, pos, negsuc, ◌+ℤ◌, neg_ℤ, unsigned_abs, Bool, true, false, ◌&&◌, nat_le, if◌then◌else◌, inl, inr, List, [], ◌∷◌, ◌++◌, get_or, take, map, length, length-append, arith}
use Rattle.std.specs.Bool.{IsTrue}
use Rattle.std.specs.Int.{int_div_euclid, int_wrap, w128}
use Rattle.std.specs.List.{All, list_all}
use Rattle.std.proofs.Math.Nat.{div-le_self}
use Rattle.std.proofs.lemmas.Bool.{and_from, and_parts, cases_lt, eqb-true, leb-true, le-leb, lt-leb}
use Rattle.std.proofs.lemmas.Int.{ints, int_wrap_fits, fits_signed_from_abs}
use Rattle.std.proofs.lemmas.List.{get_or_append_left, get_or-append-add}
use Rattle.std.proofs.lemmas.List.Elements.{All-head, All-tail}
use Rattle.ch_affine.specs.Affine.{IsAtMost, value}
use Rattle.ch_code.specs.declared.code.Bound.{Bound}
use Rattle.ch_code.specs.Trace as trace
use Rattle.ch_code.specs.WellFormed.{bound_fits, form_fits, turn_values}
use Rattle.ch_nest.specs.Run.{count, greatest, least}
use Rattle.ch_plan.specs.declared.plan.Limit.{Limit}
use Rattle.ch_plan.specs.Planned.{high_end, high_of, is_small, low_end, low_of, turns_between, wide_value}
use Rattle.ch_eval.specs.Made.{AreLimits, IsLimit, Pairs}
use Rattle.ch_plan.proofs.Spots.{sum_wide, value_small}

whole_quotient : (z : ℤ) → int_div_euclid z (pos 1) ≡ z
whole_quotient (pos n) = omega (arith, ints)
whole_quotient (negsuc n) = omega (arith, ints)

quotient_small : (z : ℤ) (d : ℕ) → unsigned_abs (int_div_euclid z (pos d)) ≤ unsigned_abs z
quotient_small (pos n) d = div-le_self n d
quotient_small (negsuc n) d = let l = div-le_self n d in omega (arith, l)

fits_wide : (z : ℤ) → unsigned_abs z ≤ 2 ^ 60 + 4096 * 2 ^ 114 → int_wrap w128 z ≡ z
fits_wide z h = int_wrap_fits w128 z (fits_signed_from_abs w128 z (omega (arith, h)))

rounded_up : (d n : ℕ) (v z : ℤ) → d ≡ n → 1 ≤ n → v ≡ z → unsigned_abs z ≤ 2 ^ 60 + 4096 * 2 ^ 114
    → (if nat_le d 1 then v else int_wrap w128 (neg_ℤ (int_div_euclid (int_wrap w128 (neg_ℤ v)) (pos d)))) ≡ neg_ℤ (int_div_euclid (neg_ℤ z) (pos n))
rounded_up d zero v z e some same small = absurd (omega arith)
rounded_up d (suc zero) v z e some same small =
    let t : nat_le d 1 ≡ true = le-leb d 1 (omega (arith, e)) in
    let q : neg_ℤ (int_div_euclid (neg_ℤ z) (pos 1)) ≡ z = ap neg_ℤ (whole_quotient (neg_ℤ z)) ∙ omega (arith, ints) in
    ap (λ (b : Bool). if b then v else int_wrap w128 (neg_ℤ (int_div_euclid (int_wrap w128 (neg_ℤ v)) (pos d)))) t ∙ same ∙ sym q
rounded_up d (suc (suc n)) v z e some same small =
    let t : nat_le d 1 ≡ false = lt-leb d 1 (omega (arith, e)) in
    let negative : unsigned_abs (neg_ℤ z) ≤ 2 ^ 60 + 4096 * 2 ^ 114 = omega (arith, ints, small) in
    let a : int_wrap w128 (neg_ℤ v) ≡ neg_ℤ z = ap (λ y. int_wrap w128 (neg_ℤ y)) same ∙ fits_wide (neg_ℤ z) negative in
    let q : ℤ = int_div_euclid (neg_ℤ z) (pos (suc (suc n))) in
    let l : unsigned_abs q ≤ unsigned_abs (neg_ℤ z) = quotient_small (neg_ℤ z) (suc (suc n)) in
    let b : int_wrap w128 (neg_ℤ q) ≡ neg_ℤ q = fits_wide (neg_ℤ q) (omega (arith, ints, l, negative)) in
    ap (λ (b : Bool). if b then v else int_wrap w128 (neg_ℤ (int_div_euclid (int_wrap w128 (neg_ℤ v)) (pos d)))) t
    ∙ ap₂ (λ y k. int_wrap w128 (neg_ℤ (int_div_euclid y (pos k)))) a e ∙ b

rounded_down : (d n : ℕ) (v z : ℤ) → d ≡ n → 1 ≤ n → v ≡ z → (if nat_le d 1 then v else int_div_euclid v (pos d)) ≡ int_div_euclid z (pos n)
rounded_down d zero v z e some same = absurd (omega arith)
rounded_down d (suc zero) v z e some same =
    let t : nat_le d 1 ≡ true = le-leb d 1 (omega (arith, e)) in
    ap (λ (b : Bool). if b then v else int_div_euclid v (pos d)) t ∙ same ∙ sym (whole_quotient z)
rounded_down d (suc (suc n)) v z e some same =
    let t : nat_le d 1 ≡ false = lt-leb d 1 (omega (arith, e)) in
    ap (λ (b : Bool). if b then v else int_div_euclid v (pos d)) t ∙ ap₂ (λ y k. int_div_euclid y (pos k)) same e

module _ (around : ℕ) (point : List ℤ) (small : All (IsAtMost (2 ^ 54)) (take around point)) where
  limit_low : (b : Bound) (l : Limit) → IsLimit b l → bound_fits around b ≡ true → low_end l point ≡ neg_ℤ (int_div_euclid (neg_ℤ (value b.form (take around point))) (pos b.divisor))
  limit_low b l i fit =
      let p = and_parts (form_fits around b.form) (nat_le 1 b.divisor) fit in
      rounded_up l.divisor b.divisor (wide_value l.sum point) (value b.form (take around point)) i.divisor (leb-true _ _ p.1) (sum_wide b.form l.sum around point i.sum (eqb-true _ _ p.0) small)
      (value_small b.form (take around point) i.sum.small small)

  limit_high : (b : Bound) (l : Limit) → IsLimit b l → bound_fits around b ≡ true → high_end l point ≡ int_div_euclid (value b.form (take around point)) (pos b.divisor)
  limit_high b l i fit =
      let p = and_parts (form_fits around b.form) (nat_le 1 b.divisor) fit in
      rounded_down l.divisor b.divisor (wide_value l.sum point) (value b.form (take around point)) i.divisor (leb-true _ _ p.1) (sum_wide b.form l.sum around point i.sum (eqb-true _ _ p.0) small)

  limits_same : (f : Limit → ℤ) (g : Bound → ℤ) → ((b : Bound) (l : Limit) → IsLimit b l → bound_fits around b ≡ true → f l ≡ g b) → (bs : List Bound) (ls : List Limit) → AreLimits bs ls
      → list_all (bound_fits around) bs ≡ true → map f ls ≡ map g bs
  limits_same f g h [] [] i fit = refl
  limits_same f g h [] (l ∷ ls) i fit = absurd i
  limits_same f g h (b ∷ bs) [] i fit = absurd i
  limits_same f g h (b ∷ bs) (l ∷ ls) i fit =
      let p = and_parts (bound_fits around b) (list_all (bound_fits around) bs) fit in
      ap₂ (λ x xs. x ∷ xs) (h b l i.0 p.0) (limits_same f g h bs ls i.1 p.1)

  pub lows_same : (bs : List Bound) (ls : List Limit) → AreLimits bs ls → list_all (bound_fits around) bs ≡ true → low_of ls point ≡ trace.low_of bs (take around point)
  lows_same bs ls i fit = ap greatest (limits_same (λ l. low_end l point) (λ b. neg_ℤ (int_div_euclid (neg_ℤ (value b.form (take around point))) (pos b.divisor))) limit_low bs ls i fit)

  pub highs_same : (bs : List Bound) (ls : List Limit) → AreLimits bs ls → list_all (bound_fits around) bs ≡ true → high_of ls point ≡ trace.high_of bs (take around point)
  highs_same bs ls i fit = ap least (limits_same (λ l. high_end l point) (λ b. int_div_euclid (value b.form (take around point)) (pos b.divisor)) limit_high bs ls i fit)

-- parts of lists

pub all_left : {X : Type 0} (P : X → Type 0) (xs ys : List X) → All P (xs ++ ys) → All P xs
all_left P xs ys h = λ k d l. subst P (get_or_append_left xs ys d k l) (h k d (omega (arith, l, length-append xs ys)))

pub all_right : {X : Type 0} (P : X → Type 0) (xs ys : List X) → All P (xs ++ ys) → All P ys
all_right P xs ys h = λ k d l. subst P (get_or-append-add xs ys k d) (h (length xs + k) d (omega (arith, l, length-append xs ys)))

-- turns

pub turn_small : (n k : ℕ) (low : ℤ) (f : ℤ → List ℤ) → k < n → All (IsAtMost (2 ^ 54)) (turn_values n low f)
    → IsAtMost (2 ^ 54) (low +ℤ pos k) × All (IsAtMost (2 ^ 54)) (f (low +ℤ pos k))
turn_small zero k low f l h = absurd (omega arith)
turn_small (suc n) k low f l h = elim (cases_lt k n) as (λ _. IsAtMost (2 ^ 54) (low +ℤ pos k) × All (IsAtMost (2 ^ 54)) (f (low +ℤ pos k))) [
  | inl below ↦ turn_small n k low f below (all_left (IsAtMost (2 ^ 54)) (turn_values n low f) ((low +ℤ pos n) ∷ f (low +ℤ pos n)) h)
  | inr past ↦
      let e : n ≡ k = omega arith in
      let here = all_right (IsAtMost (2 ^ 54)) (turn_values n low f) ((low +ℤ pos n) ∷ f (low +ℤ pos n)) h in
      let both : IsAtMost (2 ^ 54) (low +ℤ pos n) × All (IsAtMost (2 ^ 54)) (f (low +ℤ pos n)) =
      (All-head (IsAtMost (2 ^ 54)) (low +ℤ pos n) (f (low +ℤ pos n)) here, All-tail (IsAtMost (2 ^ 54)) (low +ℤ pos n) (f (low +ℤ pos n)) here) in
      subst (λ j. IsAtMost (2 ^ 54) (low +ℤ pos j) × All (IsAtMost (2 ^ 54)) (f (low +ℤ pos j))) e both
]

last_turn : (low high : ℤ) (n : ℕ) → count low high ≡ suc n → high ≡ low +ℤ pos n
last_turn low high n e = grind (arith, ints)

no_turns : (b : Bool) (n : ℕ) → n ≡ 0 → (if b then n else 0) ≡ n
no_turns true n e = refl
no_turns false n e = sym e

all_turns : (b : Bool) (n : ℕ) → b ≡ true → (if b then n else 0) ≡ n
all_turns true n e = refl
all_turns false n e = absurd cc

-- a loop all of whose values are small has all its turns
pub turns_are : (low high : ℤ) (f : ℤ → List ℤ) → All (IsAtMost (2 ^ 54)) (turn_values (count low high) low f) → turns_between low high ≡ count low high
turns_are low high f h = by (count low high) refl
  where
    by : (n : ℕ) → count low high ≡ n → turns_between low high ≡ count low high
    by zero e = no_turns (is_small low && is_small high) (count low high) e
    by (suc n) e =
        let g : All (IsAtMost (2 ^ 54)) (turn_values (suc n) low f) = subst (λ m. All (IsAtMost (2 ^ 54)) (turn_values m low f)) e h in
        let first : unsigned_abs (low +ℤ pos 0) ≤ 2 ^ 54 = (turn_small (suc n) 0 low f (omega arith) g).0 in
        let last : unsigned_abs (low +ℤ pos n) ≤ 2 ^ 54 = (turn_small (suc n) n low f (omega arith) g).0 in
        let at_high : high ≡ low +ℤ pos n = last_turn low high n e in
        let a : is_small low ≡ true = le-leb _ _ (omega (arith, ints, first)) in
        let b : is_small high ≡ true = le-leb _ _ (omega (arith, ints, last, at_high)) in
        all_turns (is_small low && is_small high) (count low high) (and_from _ _ a b)
