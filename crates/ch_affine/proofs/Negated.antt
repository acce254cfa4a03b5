-- Negatives of numbers and of forms.
use Rattle.std.proofs.Common.{◌≡◌, refl, sym, ap, ◌∙◌, subst, ℤ, pos, neg_ℤ, ◌+ℤ◌, ◌-ℤ◌, ◌*ℤ◌, ◌^◌, ◌≤◌, List, [], ◌∷◌, length, arith}
use Rattle.std.specs.List.{All}
use Rattle.std.proofs.lemmas.Int.{ints}
use Rattle.std.proofs.lemmas.List.{length-map}
use Rattle.std.proofs.lemmas.List.Elements.{All-map, All-weaker}
use Rattle.ch_affine.specs.Form.{Form}
use Rattle.ch_affine.specs.Affine.{IsAtMost, IsSmall, dot, form, value}
use Rattle.ch_affine.specs.Negatives.{negative, negatives}
use Rattle.ch_affine.proofs.Integers.{plus_times}
use Rattle.std.proofs.Math.IntN.{zero-*ℤ}

pub negated_number : (z : ℤ) → pos 0 -ℤ z ≡ neg_ℤ z
negated_number z = omega (arith, ints)

neg_times : (c x : ℤ) → neg_ℤ c *ℤ x ≡ neg_ℤ (c *ℤ x)
neg_times c x =
    let z : c +ℤ neg_ℤ c ≡ pos 0 = omega (arith, ints) in
    let e : c *ℤ x +ℤ neg_ℤ c *ℤ x ≡ pos 0 = sym (plus_times c (neg_ℤ c) x) ∙ ap (λ y. y *ℤ x) z ∙ zero-*ℤ x in
    omega (arith, ints, e)

dot_negative : (cs xs : List ℤ) → dot (negatives cs) xs ≡ neg_ℤ (dot cs xs)
dot_negative [] xs = refl
dot_negative (c ∷ cs) [] = refl
dot_negative (c ∷ cs) (x ∷ xs) = let e = neg_times c x in omega (arith, ints, dot_negative cs xs)

pub value_negative : (f : Form) (xs : List ℤ) → value (negative f) xs ≡ neg_ℤ (value f xs)
value_negative f xs = omega (arith, ints, dot_negative f.coefs xs)

neg_small : (x : ℤ) → IsAtMost (2 ^ 60) x → IsAtMost (2 ^ 60) (neg_ℤ x)
neg_small x h = omega (arith, ints)

pub negative_small : (f now : Form) (coefs : List ℤ) (constant : ℤ) → IsSmall f → f ≡ now → coefs ≡ negatives now.coefs → constant ≡ neg_ℤ f.constant → IsSmall (form coefs constant)
negative_small f now coefs constant s n e c =
    let P : ℤ → Type 0 = IsAtMost (2 ^ 60) in
    let same : coefs ≡ negatives f.coefs = e ∙ ap (λ g. negatives g.coefs) (sym n) in
    record {
      few = subst (λ n. n ≤ 4096) (sym (ap length same ∙ length-map f.coefs neg_ℤ)) s.few;
      coefs = subst (All P) (sym same) (All-map P neg_ℤ f.coefs (All-weaker P (λ x. P (neg_ℤ x)) neg_small f.coefs s.coefs));
      constant = subst P (sym c) (neg_small f.constant s.constant);
    }
