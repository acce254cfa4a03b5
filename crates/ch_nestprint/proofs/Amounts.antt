-- The numbers of affine forms while a form is read term by term.
use Rattle.std.proofs.Common.{◌≡◌, ℕ, zero, suc, ◌+◌, ℤ, pos, negsuc, ◌+ℤ◌, ◌*ℤ◌, unsigned_abs, Bool, true, false, List, [], ◌∷◌, ◌++◌, length, replicate, Option, None, Ok, refl, ap, arith}
use Rattle.std.specs.Prelude.{neg_ℤ, slice_set}
use Rattle.std.specs.List.{find, list_all}
use Rattle.std.proofs.lemmas.Bool.{and_parts}
use Rattle.std.proofs.lemmas.Bool.Decides.{nat_tests}
use Rattle.std.proofs.lemmas.Int.{ints}
use Rattle.ch_affine.specs.Combined.{combined_coefs, is_wide}
use Rattle.ch_affine.specs.Form.{Form}
use Rattle.ch_nest.specs.Limits.{most_affine}
use Rattle.ch_nest.specs.Shape.{is_at_most}
use Rattle.ch_nestparse.specs.Forms.{limit, narrow, narrow_if}
use Rattle.ch_nestprint.specs.Ends.{is_below, is_none}

abbrev pub amount : Bool → ℕ → ℤ
amount false n = pos n
amount true n = neg_ℤ (pos n)

pub below_pos : (n : ℕ) → is_below (pos n) ≡ false
below_pos n = grind (arith, ints, nat_tests)

pub below_negsuc : (n : ℕ) → is_below (negsuc n) ≡ true
below_negsuc n = grind (arith, ints, nat_tests)

amount_of : (below : Bool) (n : ℕ) → is_below (amount below n) ≡ below → amount (is_below (amount below n)) n ≡ amount below n
amount_of below n h = ap (λ (b : Bool). amount b n) h

pub amount_is : (z : ℤ) → amount (is_below z) (unsigned_abs z) ≡ z
amount_is (pos n) = amount_of false n (below_pos n)
amount_is (negsuc n) = amount_of true (suc n) (below_negsuc n)

pub none_is : (z : ℤ) → is_none z ≡ true → z ≡ pos 0
none_is z h = grind (arith, ints, nat_tests)

abbrev pub factor_of : Bool → ℤ
factor_of false = pos 1
factor_of true = negsuc 0

kept_plus : (a : ℤ) → pos 1 *ℤ a +ℤ pos 1 *ℤ pos 0 ≡ a
kept_plus a = omega (arith, ints)

kept_minus : (a : ℤ) → pos 1 *ℤ a +ℤ negsuc 0 *ℤ pos 0 ≡ a
kept_minus a = omega (arith, ints)

pub kept : (below : Bool) (a : ℤ) → pos 1 *ℤ a +ℤ factor_of below *ℤ pos 0 ≡ a
kept false a = kept_plus a
kept true a = kept_minus a

new_plus : (n : ℕ) → pos 1 *ℤ pos 0 +ℤ pos 1 *ℤ pos n ≡ pos n
new_plus n = omega (arith, ints)

new_minus : (n : ℕ) → pos 1 *ℤ pos 0 +ℤ negsuc 0 *ℤ pos n ≡ neg_ℤ (pos n)
new_minus n = omega (arith, ints)

pub new : (below : Bool) (n : ℕ) → pos 1 *ℤ pos 0 +ℤ factor_of below *ℤ pos n ≡ amount below n
new false n = new_plus n
new true n = new_minus n

abbrev pub nothing : ℕ → List ℤ
nothing n = replicate n (pos 0)

-- a lone coefficient at level k, and m levels after it
abbrev pub unit : ℤ → ℕ → ℕ → List ℤ
unit a k m = nothing k ++ a ∷ nothing m

pub iterator_unit : (levels k m : ℕ) → levels ≡ k + suc m → slice_set (nothing levels) k (pos 1) ≡ unit (pos 1) k m
iterator_unit zero k m e = absurd (omega arith)
iterator_unit (suc l) zero m e = let f : l ≡ m = omega arith in ap (λ (n : ℕ). pos 1 ∷ nothing n) f
iterator_unit (suc l) (suc k) m e = ap (λ (t : List ℤ). pos 0 ∷ t) (iterator_unit l k m (omega arith))

none_times : (size : ℕ) → pos 0 *ℤ pos 0 +ℤ pos size *ℤ pos 0 ≡ pos 0
none_times size = omega (arith, ints)

one_times : (size : ℕ) → pos 0 *ℤ pos 0 +ℤ pos size *ℤ pos 1 ≡ pos size
one_times size = omega (arith, ints)

nothing_times : (size n : ℕ) → combined_coefs (pos 0) (nothing n) (pos size) (nothing n) ≡ nothing n
nothing_times size zero = refl
nothing_times size (suc n) = rw (none_times size, nothing_times size n) refl

pub unit_times : (size levels k m : ℕ) → levels ≡ k + suc m → combined_coefs (pos 0) (nothing levels) (pos size) (unit (pos 1) k m) ≡ unit (pos size) k m
unit_times size zero k m e = absurd (omega arith)
unit_times size (suc l) zero m e =
    let f : l ≡ m = omega arith in
    rw (one_times size, f, nothing_times size m) refl
unit_times size (suc l) (suc k) m e = rw (none_times size, unit_times size l k m (omega arith)) refl

nothing_kept : (below : Bool) (n : ℕ) → combined_coefs (pos 1) (nothing n) (factor_of below) (nothing n) ≡ nothing n
nothing_kept below zero = refl
nothing_kept below (suc n) = rw (kept below (pos 0), nothing_kept below n) refl

pub all_kept : (below : Bool) (xs : List ℤ) (n : ℕ) → n ≡ length xs → combined_coefs (pos 1) xs (factor_of below) (nothing n) ≡ xs
all_kept below [] n e = refl
all_kept below (x ∷ xs) zero e = absurd (omega arith)
all_kept below (x ∷ xs) (suc n) e = rw (kept below x, all_kept below xs n (omega arith)) refl

pub unit_added : (below : Bool) (size : ℕ) (done : List ℤ) (k m : ℕ) → k ≡ length done
    → combined_coefs (pos 1) (done ++ nothing (suc m)) (factor_of below) (unit (pos size) k m) ≡ done ++ amount below size ∷ nothing m
unit_added below size [] zero m e = rw (new below size, nothing_kept below m) refl
unit_added below size [] (suc k) m e = absurd (omega arith)
unit_added below size (x ∷ xs) zero m e = absurd (omega arith)
unit_added below size (x ∷ xs) (suc k) m e = rw (kept below x, unit_added below size xs k m (omega arith)) refl

-- the limit of affine text

pub not_wide : (z : ℤ) → is_at_most most_affine z ≡ true → is_wide limit z ≡ false
not_wide z h = grind (arith, ints, nat_tests)

none_wide : (xs : List ℤ) (z : ℤ) → list_all (is_at_most most_affine) xs ≡ true → is_at_most most_affine z ≡ true → find (is_wide limit) (xs ++ z ∷ []) ≡ None
none_wide [] z h g = rw (not_wide z g) refl
none_wide (x ∷ xs) z h g =
    let parts = and_parts (is_at_most most_affine x) (list_all (is_at_most most_affine) xs) h in
    rw (not_wide x parts.0) (none_wide xs z parts.1 g)

abbrev pub IsSmall : Form → Type 0
IsSmall f = (list_all (is_at_most most_affine) f.coefs ≡ true) × (is_at_most most_affine f.constant ≡ true)

pub narrow_is : (at : ℕ) (f : Form) (iterates : Bool) → IsSmall f → narrow at f iterates ≡ Ok (record { form = f; iterates = iterates })
narrow_is at f iterates h = ap (λ (o : Option ℤ). narrow_if o at f iterates) (none_wide f.coefs f.constant h.0 h.1)

pub nothing_small : (n : ℕ) → list_all (is_at_most most_affine) (nothing n) ≡ true
nothing_small zero = refl
nothing_small (suc n) = nothing_small n

pub size_small : (z : ℤ) → is_at_most most_affine z ≡ true → is_at_most most_affine (pos (unsigned_abs z)) ≡ true
size_small z h = h
