-- The ends of loops have small numbers.
use Rattle.std.proofs.Common.{◌≡◌, ◌∙◌, sym, ap, subst, ℕ, ◌≤◌, ℤ, pos, List, length, arith}
use Rattle.std.specs.Prelude.{replicate}
use Rattle.std.specs.List.{All}
use Rattle.std.proofs.lemmas.List.{length-replicate}
use Rattle.std.proofs.lemmas.List.Elements.{All-replicate}
use Rattle.ch_affine.specs.Affine.{IsAtMost, IsSmall}
use Rattle.ch_affine.specs.Limits.{largest_coefficient}

pub small_ends : (around : ℕ) (coefs : List ℤ) (constant : ℤ) → around ≤ 2 → coefs ≡ replicate around (pos 0) → IsAtMost largest_coefficient constant
    → IsSmall (record { coefs = coefs; constant = constant })
small_ends around coefs constant few is small =
    let long : length coefs ≡ around = ap (λ (xs : List ℤ). length xs) is ∙ length-replicate around (pos 0) in
    record {
      few = omega (arith, long, few);
      coefs = subst (All (IsAtMost largest_coefficient)) (sym is) (All-replicate (IsAtMost largest_coefficient) around (pos 0) (omega arith));
      constant = small;
    }
