-- A sum of rows, each times a number of at least 0.
use Rattle.std.proofs.Common.{◌≡◌, ℕ, suc, ◌+◌, ◌<◌, ◌^◌, ℤ, pos, negsuc, ◌+ℤ◌, ◌*ℤ◌, ◌-ℤ◌, ◌≤ℤ◌, List, [], ◌∷◌, length, get_or, Bool, Option, Some, None, MatchOption, set, inl, inr, sym, ap, ◌∙◌, subst, arith}
use Rattle.std.specs.List.{All}
use Rattle.std.proofs.lemmas.Int.{ints}
use Rattle.std.proofs.lemmas.List.Elements.{All-head, All-tail}
use Rattle.std.proofs.Math.IntN.{zero-*ℤ, pos-*ℤ-pos}
use Rattle.ch_affine.specs.Form.{Form}
use Rattle.ch_affine.specs.Affine.{IsAtMost, dot, value, form}
use Rattle.ch_affine.proofs.Integers.{plus_times, times_plus, times_assoc, times_zero}
use Rattle.ch_poly.specs.Boxes.{at}
use Rattle.ch_poly.specs.Cutting.{IsSameFrom}
use Rattle.ch_poly.specs.Goals.{IsAtLeast, Reaches, Keeps, IsEmpty}
use Rattle.ch_poly.specs.Mixes.{IsAdded, IsImplied}
use Rattle.ch_poly.proofs.Meeting.{row_reached}
use Rattle.ch_poly.proofs.Ranges.{at_set}

dot_added : (factor : ℤ) (row sums sums' p : List ℤ) → length row ≡ length sums → length sums' ≡ length sums
    → ((k : ℕ) → k < length row → at sums' k ≡ at sums k +ℤ factor *ℤ at row k) → dot sums' p ≡ dot sums p +ℤ factor *ℤ dot row p
dot_added factor [] [] [] p e f each = omega (arith, ints, times_zero factor)
dot_added factor [] (s ∷ sums) sums' p e f each = absurd (omega arith)
dot_added factor [] [] (t ∷ sums') p e f each = absurd (omega arith)
dot_added factor (r ∷ row) [] sums' p e f each = absurd (omega arith)
dot_added factor (r ∷ row) (s ∷ sums) [] p e f each = absurd (omega arith)
dot_added factor (r ∷ row) (s ∷ sums) (t ∷ sums') [] e f each = omega (arith, ints, times_zero factor)
dot_added factor (r ∷ row) (s ∷ sums) (t ∷ sums') (x ∷ p) e f each =
    let m : t *ℤ x ≡ (s +ℤ factor *ℤ r) *ℤ x = ap (λ y. y *ℤ x) (each 0 (omega arith)) in
    omega (
      arith,
      ints,
      m,
      plus_times s (factor *ℤ r) x,
      times_assoc factor r x,
      times_plus factor (r *ℤ x) (dot row p),
      dot_added factor row sums sums' p (omega arith) (omega arith) (λ k lt. each (suc k) (omega arith)),
    )

dot_zero : (cs p : List ℤ) → All (IsAtMost 0) cs → dot cs p ≡ pos 0
dot_zero [] p a = omega (arith, ints)
dot_zero (c ∷ cs) [] a = omega (arith, ints)
dot_zero (c ∷ cs) (x ∷ p) a =
    let h : IsAtMost 0 c = All-head (IsAtMost 0) c cs a in
    let z : c ≡ pos 0 = omega (arith, ints) in
    let m : c *ℤ x ≡ pos 0 = ap (λ y. y *ℤ x) z ∙ zero-*ℤ x in
    omega (arith, ints, m, dot_zero cs p (All-tail (IsAtMost 0) c cs a))

times_positive : (a b : ℤ) → pos 0 ≤ℤ a → pos 0 ≤ℤ b → pos 0 ≤ℤ (a *ℤ b)
times_positive (pos a) (pos b) h g = omega (arith, ints, pos-*ℤ-pos a b)
times_positive (pos a) (negsuc b) h g = absurd (omega (arith, ints))
times_positive (negsuc a) b h g = absurd (omega (arith, ints))

pub small_zero : (cs : List ℤ) → All (IsAtMost 0) cs → All (IsAtMost (2 ^ 60)) cs
small_zero cs a = λ k d lt. (let h : IsAtMost 0 (get_or cs k d) = a k d lt in omega (arith, h))

pub implied_zero : (rows : List Form) (cs : List ℤ) → All (IsAtMost 0) cs → IsImplied rows (form cs (pos 0)) (pos 0)
implied_zero rows cs a = record { implied = λ p s h. record { reached = omega (arith, ints, dot_zero cs p a) } }

pub implied_step : (rows : List Form) (k : ℕ) (f : Form) → k < length rows → f ≡ get_or rows k f → (factor bound less : ℤ) (sums sums' : List ℤ)
    → pos 0 ≤ℤ factor → length f.coefs ≡ length sums → IsAdded factor f.coefs sums sums' → less ≡ bound -ℤ factor *ℤ f.constant
    → IsImplied rows (form sums (pos 0)) bound → IsImplied rows (form sums' (pos 0)) less
implied_step rows k f lt is factor bound less sums sums' some same a l i = record {
  implied = λ p s h. record {
    reached =
        let v : pos 0 ≤ℤ value f p = (row_reached (pos 0) rows k f lt is p h).reached in
        let b : bound ≤ℤ (pos 0 +ℤ dot sums p) = (i.implied p (s ∙ a.same) h).reached in
        omega (
          arith,
          ints,
          l,
          b,
          dot_added factor f.coefs sums sums' p same a.same a.each,
          times_plus factor f.constant (dot f.coefs p),
          times_positive factor (value f p) some v,
        );
  };
}

pub mixed_keeps : (rows : List Form) (sums : List ℤ) (bound : ℤ) (lows highs l h : List ℤ) → IsImplied rows (form sums (pos 0)) bound → length sums ≡ length lows
    → Keeps (IsAtLeast bound (form sums (pos 0))) lows highs l h → Keeps (Reaches (pos 0) rows) lows highs l h
mixed_keeps rows sums bound lows highs l h i s k = record { kept = λ p w r. k.kept p w (i.implied p (w.same ∙ sym s) r) }

pub mixed_empty : (rows : List Form) (sums : List ℤ) (bound : ℤ) (lows highs : List ℤ) → IsImplied rows (form sums (pos 0)) bound → length sums ≡ length lows
    → IsEmpty (IsAtLeast bound (form sums (pos 0))) lows highs → IsEmpty (Reaches (pos 0) rows) lows highs
mixed_empty rows sums bound lows highs i s e = record { none = λ p w r. e.none p w (i.implied p (w.same ∙ sym s) r) }

pub front_step : (factor : ℤ) (row old sums : List ℤ) (k : ℕ) (v : ℤ) → k < length sums → ((j : ℕ) → j < k → at sums j ≡ at old j +ℤ factor *ℤ at row j) → IsSameFrom k old sums
    → v ≡ at sums k +ℤ factor *ℤ at row k → (j : ℕ) → j < k + 1 → at (set sums k v) j ≡ at old j +ℤ factor *ℤ at row j
front_step factor row old sums k v lt front back is j lj = elim (at_set sums k v j lt) [
  | inl w ↦ (let P : ℕ → Type 0 = λ i. v ≡ at old i +ℤ factor *ℤ at row i in
      w.1 ∙ subst P (sym w.0) (is ∙ ap (λ y. y +ℤ factor *ℤ at row k) (back.other k (omega arith))))
  | inr w ↦ w.1 ∙ front j (omega (arith, w.0))
]

pub mixed_either : (rows : List Form) (sums : List ℤ) (bound : ℤ) (lows highs l h : List ℤ) (r : Option Bool) → IsImplied rows (form sums (pos 0)) bound → length sums ≡ length lows
    → MatchOption r (IsEmpty (IsAtLeast bound (form sums (pos 0))) lows highs) (λ changed. Keeps (IsAtLeast bound (form sums (pos 0))) lows highs l h)
    → MatchOption r (IsEmpty (Reaches (pos 0) rows) lows highs) (λ changed. Keeps (Reaches (pos 0) rows) lows highs l h)
mixed_either rows sums bound lows highs l h None i s m = mixed_empty rows sums bound lows highs i s m
mixed_either rows sums bound lows highs l h (Some changed) i s m = mixed_keeps rows sums bound lows highs l h i s m
