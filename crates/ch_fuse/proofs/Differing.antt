-- Two lists of places that are apart differ at a place that both have, and lists that differ at such a place are apart.
use Rattle.std.proofs.Common.{◌≡◌, refl, sym, ap, ◌∙◌, ℕ, zero, suc, ◌<◌, ◌≤◌, ℤ, pos, int_eq, Bool, true, false, not, ◌&&◌, List, [], ◌∷◌, length, take, get_or, ◌⊎◌, inl, inr, arith}
use Rattle.std.proofs.lemmas.Bool.{and_from, and_parts, cases_lt, or_cases, or_right}
use Rattle.std.proofs.lemmas.Int.{ints}
use Rattle.std.proofs.lemmas.List.{get_or-take}
use Rattle.std.proofs.Math.Seq.{take-length}
use Rattle.ch_space.proofs.PieceNumbers.{lists_same, same_lists}
use Rattle.ch_timed.specs.Vectors.{begins_with, same_numbers}
use Rattle.ch_timed.proofs.Prefixes.{apart}

-- both lists have that place, and it differs
pub record DiffersAt (a b : List ℤ) (k : ℕ) : Type 0 where
  pub left : k < length a
  pub right : k < length b
  pub differ : get_or a k (pos 0) ≡ get_or b k (pos 0) → ⊥

abbrev pub Differ : List ℤ → List ℤ → Type 0
Differ a b = (k : ℕ) × DiffersAt a b k

pub turned : (a b : List ℤ) (k : ℕ) → DiffersAt a b k → DiffersAt b a k
turned a b k d = record { left = d.right; right = d.left; differ = λ e. d.differ (sym e) }

pub either : (b : Bool) → (b ≡ true) ⊎ (b ≡ false)
either true = inl refl
either false = inr refl

refuted : (b : Bool) → (b ≡ true → ⊥) → not b ≡ true
refuted true h = absurd (h refl)
refuted false h = refl

no_front : (a b : List ℤ) (k : ℕ) → DiffersAt a b k → not (begins_with a b) ≡ true
no_front a b k d = refuted (begins_with a b) (λ t.
    d.differ (ap (λ z. get_or z k (pos 0)) (same_lists a (take (length a) b) t) ∙ get_or-take (length a) b k (pos 0) d.left))

pub differ_apart : (a b : List ℤ) → Differ a b → apart a b ≡ true
differ_apart a b d = or_right (same_numbers a b) _ (and_from _ _ (no_front a b d.0 d.1) (no_front b a d.0 (turned a b d.0 d.1)))

same_ints : (x y : ℤ) → int_eq x y ≡ true → x ≡ y
same_ints x y t = grind (arith, ints)

pub other_ints : (x y : ℤ) → int_eq x y ≡ false → x ≡ y → ⊥
other_ints x y t e = grind (arith, ints)

pub front_same : (n k : ℕ) (a b : List ℤ) → take n a ≡ take n b → k < n → get_or a k (pos 0) ≡ get_or b k (pos 0)
front_same n k a b e l = sym (get_or-take n a k (pos 0) l) ∙ ap (λ z. get_or z k (pos 0)) e ∙ get_or-take n b k (pos 0) l

-- where the fronts are not the same, they differ at a place
pub fronts_differ : (n : ℕ) (a b : List ℤ) → n ≤ length a → n ≤ length b → (take n a ≡ take n b → ⊥) → (k : ℕ) × (k < n) × DiffersAt a b k
fronts_differ zero a b l m h = absurd (h refl)
fronts_differ (suc n) [] b l m h = absurd (omega arith)
fronts_differ (suc n) (x ∷ a) [] l m h = absurd (omega arith)
fronts_differ (suc n) (x ∷ a) (y ∷ b) l m h = elim (either (int_eq x y)) as (λ _. (k : ℕ) × (k < suc n) × DiffersAt (x ∷ a) (y ∷ b) k) [
  | inl t ↦
      let r = fronts_differ n a b (omega arith) (omega arith) (λ e. h (ap (λ z. x ∷ z) e ∙ ap (λ z. z ∷ take n b) (same_ints x y t))) in
      (suc r.0, omega arith, record { left = omega arith; right = omega arith; differ = r.2.differ })
  | inr t ↦ (0, omega arith, record { left = omega arith; right = omega arith; differ = other_ints x y t })
]

unrefuted : (b : Bool) → not b ≡ true → b ≡ true → ⊥
unrefuted true h t = cc
unrefuted false h t = cc

other_front : (a b : List ℤ) → not (begins_with a b) ≡ true → take (length a) a ≡ take (length a) b → ⊥
other_front a b h e = unrefuted (begins_with a b) h (lists_same a (take (length a) b) (sym (take-length a) ∙ e))

pub apart_differ : (a b : List ℤ) → apart a b ≡ true → (a ≡ b) ⊎ Differ a b
apart_differ a b h = elim (or_cases (same_numbers a b) (not (begins_with a b) && not (begins_with b a)) h) as (λ _. (a ≡ b) ⊎ Differ a b) [
  | inl s ↦ inl (same_lists a b s)
  | inr t ↦
      let p = and_parts (not (begins_with a b)) (not (begins_with b a)) t in
      elim (cases_lt (length b) (length a)) as (λ _. (a ≡ b) ⊎ Differ a b) [
        | inl l ↦ let r = fronts_differ (length b) b a (omega arith) (omega arith) (other_front b a p.1) in inr (r.0, turned b a r.0 r.2)
        | inr l ↦ let r = fronts_differ (length a) a b (omega arith) l (other_front a b p.0) in inr (r.0, r.2)
      ]
]
