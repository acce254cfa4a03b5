-- Bounds that are numbers, and lists given element by element.
use Rattle.std.proofs.Common.{◌≡◌, sym, ap, ◌∙◌, subst, true, false, ℕ, zero, suc, ◌+◌, ◌<◌, ◌≤◌, ◌⊎◌, inl, inr, ℤ, pos, ◌*ℤ◌, ◌≤ℤ◌, List, [], ◌∷◌, ◌++◌, length, take, get_or, arith}
use Rattle.std.specs.List.{All}
use Rattle.std.proofs.lemmas.Int.{ints}
use Rattle.std.proofs.lemmas.List.{take_all, take_more}
use Rattle.ch_affine.specs.Affine.{value}
use Rattle.ch_code.specs.declared.code.Bound.{Bound}
use Rattle.ch_timed.specs.Members.{Each}
use Rattle.ch_codegen.specs.Bounds.{AreFixed, HaveDivisors, IsAbove, IsBelow, IsFixedHigh, IsFixedLow, IsNumber, end_of}
use Rattle.ch_codegen.proofs.Followed.{zero_dot}
use Rattle.ch_codegen.proofs.Quotients.{above_from, above_to, below_from, below_to}
use Rattle.ch_codegen.proofs.Smallness.{from_each, to_each}

pub all_whole : {X : Type 0} (P : X → Type 0) (xs : List X) (k : ℕ) → length xs ≤ k → All P (take k xs) → All P xs
all_whole P xs k l h = subst (All P) (take_all k xs l) h

each_push : {X : Type 0} (P : X → Type 0) (xs : List X) (x : X) → Each P xs → P x → Each P (xs ++ x ∷ [])
each_push P [] x h p = (p, tt)
each_push P (y ∷ ys) x h p = (h.0, each_push P ys x h.1 p)

pub each_more : {X : Type 0} (P : X → Type 0) (xs : List X) (k : ℕ) (x : X) → k < length xs → x ≡ get_or xs k x → P x → Each P (take k xs) → Each P (take (k + 1) xs)
each_more P xs k x l e p h = subst (Each P) (sym (take_more xs k x l ∙ ap (λ y. take k xs ++ y ∷ []) (sym e))) (each_push P (take k xs) x h p)

pub all_more : {X : Type 0} (P : X → Type 0) (xs : List X) (k : ℕ) (x : X) → k < length xs → x ≡ get_or xs k x → P x → All P (take k xs) → All P (take (k + 1) xs)
all_more P xs k x l e p h = from_each P (take (k + 1) xs) (each_more P xs k x l e p (to_each P (take k xs) h))

pub each_at : {X : Type 0} (P : X → Type 0) (xs : List X) (k : ℕ) (x : X) → k < length xs → x ≡ get_or xs k x → Each P xs → P x
each_at P [] k x l e h = absurd (omega arith)
each_at P (y ∷ ys) zero x l e h = subst P (sym e) h.0
each_at P (y ∷ ys) (suc k) x l e h = each_at P ys k x (omega arith) e h.1

pub all_at : {X : Type 0} (P : X → Type 0) (xs : List X) (k : ℕ) (x : X) → k < length xs → x ≡ get_or xs k x → All P xs → P x
all_at P xs k x l e h = subst P (sym e) (h k x l)

pub number_value : (b : Bound) (xs : List ℤ) → IsNumber b → value b.form xs ≡ b.form.constant
number_value b xs n = let z = zero_dot b.form.coefs xs (to_each (λ c. c ≡ pos 0) b.form.coefs n) in omega (arith, ints, z)

abbrev pub up : Bound → ℤ
up = end_of true

abbrev pub down : Bound → ℤ
down = end_of false

pub up_from : (b : Bound) (xs : List ℤ) (x : ℤ) → IsNumber b → 1 ≤ b.divisor → IsAbove xs x b → up b ≤ℤ x
up_from b xs x n s h = above_to b.form.constant x b.divisor s (subst (λ v. v ≤ℤ (pos b.divisor *ℤ x)) (number_value b xs n) h)

pub up_to : (b : Bound) (xs : List ℤ) (x : ℤ) → IsNumber b → 1 ≤ b.divisor → up b ≤ℤ x → IsAbove xs x b
up_to b xs x n s h = subst (λ v. v ≤ℤ (pos b.divisor *ℤ x)) (sym (number_value b xs n)) (above_from b.form.constant x b.divisor s h)

pub down_from : (b : Bound) (xs : List ℤ) (x : ℤ) → IsNumber b → 1 ≤ b.divisor → IsBelow xs x b → x ≤ℤ down b
down_from b xs x n s h = below_to b.form.constant x b.divisor s (subst (λ v. (pos b.divisor *ℤ x) ≤ℤ v) (number_value b xs n) h)

pub down_to : (b : Bound) (xs : List ℤ) (x : ℤ) → IsNumber b → 1 ≤ b.divisor → x ≤ℤ down b → IsBelow xs x b
down_to b xs x n s h = subst (λ v. (pos b.divisor *ℤ x) ≤ℤ v) (sym (number_value b xs n)) (below_from b.form.constant x b.divisor s h)

-- the first so many bounds
pub record IsLowSoFar (lows : List Bound) (k : ℕ) (z : ℤ) : Type 0 where
  pub from : (xs : List ℤ) (x : ℤ) → Each (IsAbove xs x) lows → z ≤ℤ x
  pub to : (xs : List ℤ) (x : ℤ) → z ≤ℤ x → Each (IsAbove xs x) (take k lows)

pub record IsHighSoFar (highs : List Bound) (k : ℕ) (z : ℤ) : Type 0 where
  pub from : (xs : List ℤ) (x : ℤ) → Each (IsBelow xs x) highs → x ≤ℤ z
  pub to : (xs : List ℤ) (x : ℤ) → x ≤ℤ z → Each (IsBelow xs x) (take k highs)

pub low_start : (lows : List Bound) (b : Bound) (z : ℤ) → 0 < length lows → b ≡ get_or lows 0 b → All IsNumber lows → HaveDivisors lows → z ≡ up b → IsLowSoFar lows 0 z
low_start lows b z l e n s is = record {
  from = λ xs x h. subst (λ y. y ≤ℤ x) (sym is) (up_from b xs x (all_at IsNumber lows 0 b l e n) (all_at (λ b. 1 ≤ b.divisor) lows 0 b l e s) (each_at (IsAbove xs x) lows 0 b l e h));
  to = λ xs x h. tt;
}

pub low_more : (lows : List Bound) (k : ℕ) (b : Bound) (old more z : ℤ) → k < length lows → b ≡ get_or lows k b → All IsNumber lows → HaveDivisors lows → more ≡ up b
    → old ≤ℤ z → more ≤ℤ z → (z ≡ old) ⊎ (z ≡ more) → IsLowSoFar lows k old → IsLowSoFar lows (k + 1) z
low_more lows k b old more z l e n s is u v one h = record {
  from = λ xs x a. elim one as (λ _. z ≤ℤ x) [
    | inl i ↦ subst (λ y. y ≤ℤ x) (sym i) (h.from xs x a)
    | inr i ↦ subst (λ y. y ≤ℤ x) (sym (i ∙ is)) (up_from b xs x (all_at IsNumber lows k b l e n) (all_at (λ b. 1 ≤ b.divisor) lows k b l e s) (each_at (IsAbove xs x) lows k b l e a))
  ];
  to = λ xs x a.
      each_more (IsAbove xs x) lows k b l e (up_to b xs x (all_at IsNumber lows k b l e n) (all_at (λ b. 1 ≤ b.divisor) lows k b l e s) (subst (λ y. y ≤ℤ x) is (omega (arith, ints, v, a))))
      (h.to xs x (omega (arith, ints, u, a)));
}

pub low_whole : (lows : List Bound) (k : ℕ) (z : ℤ) → length lows ≤ k → IsLowSoFar lows k z → IsFixedLow lows z
low_whole lows k z l h = record { from = h.from; to = λ xs x a. subst (Each (IsAbove xs x)) (take_all k lows l) (h.to xs x a) }

pub high_start : (highs : List Bound) (b : Bound) (z : ℤ) → 0 < length highs → b ≡ get_or highs 0 b → All IsNumber highs → HaveDivisors highs → z ≡ down b → IsHighSoFar highs 0 z
high_start highs b z l e n s is = record {
  from = λ xs x h. subst (λ y. x ≤ℤ y) (sym is) (down_from b xs x (all_at IsNumber highs 0 b l e n) (all_at (λ b. 1 ≤ b.divisor) highs 0 b l e s) (each_at (IsBelow xs x) highs 0 b l e h));
  to = λ xs x h. tt;
}

pub high_more : (highs : List Bound) (k : ℕ) (b : Bound) (old more z : ℤ) → k < length highs → b ≡ get_or highs k b → All IsNumber highs → HaveDivisors highs → more ≡ down b
    → z ≤ℤ old → z ≤ℤ more → (z ≡ old) ⊎ (z ≡ more) → IsHighSoFar highs k old → IsHighSoFar highs (k + 1) z
high_more highs k b old more z l e n s is u v one h = record {
  from = λ xs x a. elim one as (λ _. x ≤ℤ z) [
    | inl i ↦ subst (λ y. x ≤ℤ y) (sym i) (h.from xs x a)
    | inr i ↦ subst (λ y. x ≤ℤ y) (sym (i ∙ is)) (down_from b xs x (all_at IsNumber highs k b l e n) (all_at (λ b. 1 ≤ b.divisor) highs k b l e s) (each_at (IsBelow xs x) highs k b l e a))
  ];
  to = λ xs x a.
      each_more (IsBelow xs x) highs k b l e (down_to b xs x (all_at IsNumber highs k b l e n) (all_at (λ b. 1 ≤ b.divisor) highs k b l e s) (subst (λ y. x ≤ℤ y) is (omega (arith, ints, v, a))))
      (h.to xs x (omega (arith, ints, u, a)));
}

pub high_whole : (highs : List Bound) (k : ℕ) (z : ℤ) → length highs ≤ k → IsHighSoFar highs k z → IsFixedHigh highs z
high_whole highs k z l h = record { from = h.from; to = λ xs x a. subst (Each (IsBelow xs x)) (take_all k highs l) (h.to xs x a) }

pub both_fixed : (lows highs : List Bound) (low high : ℤ) → IsFixedLow lows low → IsFixedHigh highs high → AreFixed lows highs (record { low = low; high = high })
both_fixed lows highs low high l h = record {
  from = λ xs x b. (l.from xs x b.above, h.from xs x b.below);
  to = λ xs x u v. record { above = l.to xs x u; below = h.to xs x v };
}
