-- Two rows of which one at most is at least 0.
use Rattle.std.proofs.Common.{◌≡◌, ℕ, zero, suc, ◌<◌, ℤ, pos, negsuc, ◌+ℤ◌, ◌*ℤ◌, ◌≤ℤ◌, List, [], ◌∷◌, length, get_or, refl, ap, subst, arith}
use Rattle.std.proofs.lemmas.Int.{ints}
use Rattle.std.proofs.Math.IntN.{neg_ℤ, zero-*ℤ, pos-*ℤ-pos, pos-*ℤ-negsuc, negsuc-*ℤ-pos, negsuc-*ℤ-negsuc}
use Rattle.ch_affine.specs.Form.{Form}
use Rattle.ch_affine.specs.Affine.{dot, value}
use Rattle.ch_poly.specs.Boxes.{at}
use Rattle.ch_poly.specs.Opposed.{IsOpposed, IsNever}

pub neg_times : (d x : ℤ) → (neg_ℤ d *ℤ x) +ℤ (d *ℤ x) ≡ pos 0
neg_times (pos zero) x = omega (arith, ints, zero-*ℤ x)
neg_times (pos (suc n)) (pos m) = omega (arith, ints, negsuc-*ℤ-pos n m, pos-*ℤ-pos (suc n) m)
neg_times (pos (suc n)) (negsuc m) = omega (arith, ints, negsuc-*ℤ-negsuc n m, pos-*ℤ-negsuc (suc n) m)
neg_times (negsuc n) (pos m) = omega (arith, ints, negsuc-*ℤ-pos n m, pos-*ℤ-pos (suc n) m)
neg_times (negsuc n) (negsuc m) = omega (arith, ints, negsuc-*ℤ-negsuc n m, pos-*ℤ-negsuc (suc n) m)

pub dot_opposed : (cs ds p : List ℤ) → length cs ≡ length ds → ((k : ℕ) → k < length cs → at cs k ≡ neg_ℤ (at ds k)) → dot cs p +ℤ dot ds p ≡ pos 0
dot_opposed [] [] p e h = refl
dot_opposed [] (d ∷ ds) p e h = absurd (omega arith)
dot_opposed (c ∷ cs) [] p e h = absurd (omega arith)
dot_opposed (c ∷ cs) (d ∷ ds) [] e h = refl
dot_opposed (c ∷ cs) (d ∷ ds) (x ∷ p) e h =
    let first : c *ℤ x ≡ neg_ℤ d *ℤ x = ap (λ y. y *ℤ x) (h 0 (omega arith)) in
    omega (arith, ints, first, neg_times d x, dot_opposed cs ds p (omega arith) (λ k lt. h (suc k) (omega arith)))

pub opposed_never : (rows : List Form) (i j : ℕ) (f g : Form) → i < length rows → j < length rows → get_or rows i f ≡ f → get_or rows j g ≡ g → IsOpposed f g → IsNever rows
opposed_never rows i j f g li lj ei ej o = record {
  never = λ p h.
      let P : Form → Type 0 = λ x. pos 0 ≤ℤ value x p in
      let a : pos 0 ≤ℤ value f p = subst P ei (h.each i f li) in
      let b : pos 0 ≤ℤ value g p = subst P ej (h.each j g lj) in
      omega (arith, ints, a, b, o.sum, dot_opposed f.coefs g.coefs p o.same o.each);
}
