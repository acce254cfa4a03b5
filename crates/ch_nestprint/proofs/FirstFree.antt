-- The search for the fewest underscores, one step further.
use Rattle.std.proofs.Common.{◌≡◌, ℕ, zero, suc, ◌+◌, ◌-◌, ◌<◌, ◌≤◌, Bool, true, false, List, refl, sym, ap, ◌∙◌, arith}
use Rattle.std.specs.List.{list_any}
use Rattle.ch_nest.specs.declared.nest.ArrayDecl.{ArrayDecl}
use Rattle.ch_nestprint.specs.Names.{first_free, is_taken}

pub first_here : (arrays : List ArrayDecl) (k letters : ℕ) → list_any (is_taken letters) arrays ≡ false → first_free arrays k letters ≡ letters
first_here arrays zero letters h = refl
first_here arrays (suc k) letters h = rw h refl

pub first_next : (arrays : List ArrayDecl) (k letters : ℕ) → list_any (is_taken letters) arrays ≡ true → first_free arrays (suc k) letters ≡ first_free arrays k (letters + 1)
first_next arrays k letters h = rw h refl

pub stays : (arrays : List ArrayDecl) (most letters first : ℕ) → list_any (is_taken letters) arrays ≡ false → first_free arrays (most - letters) letters ≡ first → letters ≡ first
stays arrays most letters first h e = sym (first_here arrays (most - letters) letters h) ∙ e

pub goes_on : (arrays : List ArrayDecl) (most letters first : ℕ) → letters < most → list_any (is_taken letters) arrays ≡ true → first_free arrays (most - letters) letters ≡ first
    → first_free arrays (most - (letters + 1)) (letters + 1) ≡ first
goes_on arrays most letters first l h e =
    let one : most - letters ≡ suc (most - (letters + 1)) = omega (arith, l) in
    sym (first_next arrays (most - (letters + 1)) letters h) ∙ sym (ap (λ (k : ℕ). first_free arrays k letters) one) ∙ e

pub ends : (arrays : List ArrayDecl) (most letters first : ℕ) → letters ≡ most → first_free arrays (most - letters) letters ≡ first → most ≡ first
ends arrays most letters first s e =
    let none : most - letters ≡ 0 = omega (arith, s) in
    sym s ∙ sym (ap (λ (k : ℕ). first_free arrays k letters) none) ∙ e
