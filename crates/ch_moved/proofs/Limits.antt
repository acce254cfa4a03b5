-- How large the numbers of changed pieces are.
use Rattle.std.proofs.Common.{◌≡◌, sym, ap, ◌∙◌, subst, ℕ, zero, suc, ◌+◌, ◌*◌, ◌<◌, ◌≤◌, ◌^◌, ℤ, pos, ◌+ℤ◌, ◌*ℤ◌, neg_ℤ, unsigned_abs, List, [], ◌∷◌, ◌++◌, map, length, get_or, inl, inr, sum, arith}
use Rattle.std.specs.List.{All}
use Rattle.std.proofs.lemmas.Bool.{cases_lt}
use Rattle.std.proofs.lemmas.Int.{ints, unsigned_abs-mul}
use Rattle.std.proofs.lemmas.List.{append-nil, drop_all, get_or_default, get_or_past}
use Rattle.std.proofs.lemmas.List.Sums.{sum-map, sum_by-cons}
use Rattle.std.proofs.lemmas.Nat.{mul-le}
use Rattle.std.proofs.Math.Nat.{mul_assoc, mul_comm, mul-add}
use Rattle.ch_affine.specs.Affine.{IsAtMost, IsSmall, dot}
use Rattle.ch_affine.specs.Form.{Form}
use Rattle.ch_moved.specs.Changed.{AllLong}
use Rattle.ch_moved.specs.Spread.{column, constants}
use Rattle.ch_moved.specs.Substituted.{substituted}
use Rattle.ch_moved.proofs.Substitutes.{coefficient_is, constant_is, front, length_front}
use Rattle.ch_space.specs.declared.piece.Piece.{Piece}
use Rattle.ch_space.specs.Keeps.{IsLimited, IsNarrow, farthest, most_commands, most_weight}

-- the greatest magnitude of a value

regroup : (w by a : ℕ) → (w * by) * a ≡ (w * a) * by
regroup w by a = mul_assoc w by a ∙ ap (λ n. w * n) (mul_comm by a) ∙ sym (mul_assoc w a by)

pub farther : (w c by more : ℕ) → 1 ≤ w → 1 ≤ by → more ≤ 2 ^ 20 → farthest w c * by + w * more ≤ farthest (w * by) (c + 1)
farther w c by more s t m =
    let a = 2 ^ 30 + c * 2 ^ 20 in
    let e : 2 ^ 30 + (c + 1) * 2 ^ 20 ≡ a + 2 ^ 20 = omega arith in
    let split : (w * by) * (a + 2 ^ 20) ≡ (w * by) * a + (w * by) * 2 ^ 20 = mul-add (w * by) a (2 ^ 20) in
    let same = regroup w by a in
    let one : w * 1 ≤ w * by = mul-le w 1 w by (omega arith) t in
    let whole = ap (λ n. (w * by) * n) e in
    let far : w * more ≤ (w * by) * 2 ^ 20 = mul-le w more (w * by) (2 ^ 20) (omega arith) m in
    omega arith

pub far_more : (w c by : ℕ) → 1 ≤ w → 1 ≤ by → farthest w c ≤ farthest (w * by) (c + 1)
far_more w c by s t =
    let h = farther w c by 0 s t (omega arith) in
    let one : farthest w c * 1 ≤ farthest w c * by = mul-le (farthest w c) 1 (farthest w c) by (omega arith) t in
    omega arith

pub far_least : (w c : ℕ) → 1 ≤ w → 2 ^ 20 ≤ farthest w c
far_least w c s = let h : 1 * 2 ^ 30 ≤ farthest w c = mul-le 1 (2 ^ 30) w (2 ^ 30 + c * 2 ^ 20) s (omega arith) in omega arith

pub far_most : (w c : ℕ) → w ≤ most_weight → c ≤ most_commands → farthest w c ≤ 2 ^ 51
far_most w c s t = let h : farthest w c ≤ most_weight * (2 ^ 30 + most_commands * 2 ^ 20) = mul-le w (2 ^ 30 + c * 2 ^ 20) most_weight (2 ^ 30 + most_commands * 2 ^ 20) s (omega arith) in omega arith

-- the numbers of a form that others were put into

pub front_alone : (n : ℕ) (gs : List Form) (f : Form) → length f.coefs ≡ length gs → (substituted n gs f).coefs ≡ (front n gs f).coefs
front_alone n gs f e = ap (λ xs. (front n gs f).coefs ++ xs) (drop_all (length gs) f.coefs (omega arith)) ∙ append-nil (front n gs f).coefs

pub narrow_by : (n : ℕ) (gs : List Form) (f : Form) (w c : ℕ) → AllLong n gs → length f.coefs ≡ length gs → ((k : ℕ) → k < n → IsAtMost w (dot f.coefs (column k gs)))
    → IsAtMost (farthest w c) (f.constant +ℤ dot f.coefs (constants gs)) → IsNarrow w c (substituted n gs f)
narrow_by n gs f w c long e h k = record {
  coefs = subst (All (IsAtMost w)) (sym (front_alone n gs f e)) (λ j d l.
      let m = length_front n gs f long in
      let o : j < n = omega arith in
      subst (IsAtMost w) (coefficient_is n gs f j long o ∙ get_or_default (front n gs f).coefs j (pos 0) d l) (h j o));
  constant = subst (IsAtMost (farthest w c)) (constant_is n gs f) k;
}

pub length_substituted : (n : ℕ) (gs : List Form) (f : Form) → AllLong n gs → length f.coefs ≡ length gs → length (substituted n gs f).coefs ≡ n
length_substituted n gs f long e = ap length (front_alone n gs f e) ∙ length_front n gs f long

pub narrow_small : (n : ℕ) (f : Form) (w c : ℕ) → length f.coefs ≡ n → n ≤ 10 → w ≤ most_weight → c ≤ most_commands → IsNarrow w c f → IsSmall f
narrow_small n f w c e l s t narrow = let far = far_most w c s t in record {
  few = omega arith;
  coefs = λ k d h. let b = narrow.coefs k d h in omega arith;
  constant = let b = narrow.constant in omega arith;
}

-- a number of a list, or 0 behind it
pub at_most_at : (w : ℕ) (cs : List ℤ) (k : ℕ) → All (IsAtMost w) cs → IsAtMost w (get_or cs k (pos 0))
at_most_at w cs k h = elim (cases_lt k (length cs)) as (λ _. IsAtMost w (get_or cs k (pos 0))) [
  | inl l ↦ h k (pos 0) l
  | inr l ↦ subst (IsAtMost w) (sym (get_or_past cs k (pos 0) l)) (omega arith)
]

pub magnitudes : (c : ℤ) (cs : List ℤ) → sum (map unsigned_abs (c ∷ cs)) ≡ unsigned_abs c + sum (map unsigned_abs cs)
magnitudes c cs = sum-map unsigned_abs (c ∷ cs) ∙ sum_by-cons unsigned_abs c cs ∙ ap (λ n. unsigned_abs c + n) (sym (sum-map unsigned_abs cs))

pub in_sum : (cs : List ℤ) (k : ℕ) → unsigned_abs (get_or cs k (pos 0)) ≤ sum (map unsigned_abs cs)
in_sum [] k = omega arith
in_sum (c ∷ cs) zero = omega (arith, magnitudes c cs)
in_sum (c ∷ cs) (suc k) = omega (arith, in_sum cs k, magnitudes c cs)

-- one number plus a product
pub bounded_product : (a b c : ℤ) (w s : ℕ) → IsAtMost w b → unsigned_abs c ≤ s → unsigned_abs (a +ℤ b *ℤ neg_ℤ c) ≤ unsigned_abs a + w * s
bounded_product a b c w s h k =
    let n : unsigned_abs (neg_ℤ c) ≤ s = grind (arith, ints) in
    let p : unsigned_abs (b *ℤ neg_ℤ c) ≤ w * s = subst (λ z. z ≤ w * s) (sym (unsigned_abs-mul b (neg_ℤ c))) (mul-le (unsigned_abs b) (unsigned_abs (neg_ℤ c)) w s h n) in
    omega (arith, ints)

-- a piece that stays as it is

pub more_limits : (w c by : ℕ) (p : Piece) → 1 ≤ w → 1 ≤ by → IsLimited w c p → IsLimited (w * by) (c + 1) p
more_limits w c by p s t l =
    let far = far_more w c by s t in
    let one : w * 1 ≤ w * by = mul-le w 1 w by (omega arith) t in
    record {
      levels = l.levels;
      iterators = l.iterators;
      variables = let v = l.variables in omega arith;
      boxes = λ k d h. let b = l.boxes k d h in record { low = let m = b.low in omega arith; high = let m = b.high in omega arith };
      origin = λ k d h. let b = l.origin k d h in record { coefs = λ j e i. let m = b.coefs j e i in omega arith; constant = let m = b.constant in omega arith };
    }
