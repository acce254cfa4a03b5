-- The two sides of a condition keep the limit of affine text, and their difference is the row.
use Rattle.std.proofs.Common.{◌≡◌, ◌+◌, ℕ, ℤ, pos, negsuc, ◌+ℤ◌, ◌*ℤ◌, ◌-ℤ◌, Bool, true, false, ◌&&◌, nat_eq, List, [], ◌∷◌, length, map, if◌then◌else◌, refl, ap, ◌∙◌, arith}
use Rattle.std.specs.Prelude.{int_le, neg_ℤ}
use Rattle.std.specs.List.{list_all}
use Rattle.std.proofs.lemmas.Bool.{and_from, and_parts}
use Rattle.std.proofs.lemmas.Bool.Decides.{nat_tests}
use Rattle.std.proofs.lemmas.Int.{ints}
use Rattle.ch_affine.specs.Combined.{combined_coefs}
use Rattle.ch_affine.specs.Form.{Form}
use Rattle.ch_nest.specs.Limits.{most_affine, most_number}
use Rattle.ch_nest.specs.Shape.{coefs_fit, constant_fits, form_fits, is_at_most, row_fits}
use Rattle.ch_nestparse.specs.Conditions.{difference, less_one, row_of}
use Rattle.ch_nestparse.specs.declared.conditions.Relation.TheVariants as relations
use Rattle.ch_nestprint.specs.Conditions.{far, is_low, moved, near}
use Rattle.ch_nestprint.specs.Ends.{raised_if}

abbrev pub left_side : Form → Form
left_side row = record { coefs = map near row.coefs; constant = far row.constant }

abbrev pub right_side : Form → Form
right_side row = record { coefs = map moved row.coefs; constant = neg_ℤ (near row.constant) }

abbrev pub raised_row : Bool → Form → Form
raised_row low row = record { coefs = row.coefs; constant = raised_if low row.constant }

near_small : (z : ℤ) → is_at_most most_affine (near z) ≡ true
near_small z = grind (arith, ints, nat_tests)

far_small : (z : ℤ) → is_at_most most_number z ≡ true → is_at_most most_affine (far z) ≡ true
far_small z h = grind (arith, ints, nat_tests)

moved_small : (z : ℤ) → is_at_most most_number z ≡ true → is_at_most most_affine (moved z) ≡ true
moved_small z h = grind (arith, ints, nat_tests)

less_near : (z : ℤ) → is_at_most most_affine (neg_ℤ (near z)) ≡ true
less_near z = grind (arith, ints, nat_tests)

all_near : (zs : List ℤ) → list_all (is_at_most most_affine) (map near zs) ≡ true
all_near [] = refl
all_near (z ∷ zs) = and_from (is_at_most most_affine (near z)) _ (near_small z) (all_near zs)

all_moved : (zs : List ℤ) → list_all (is_at_most most_number) zs ≡ true → list_all (is_at_most most_affine) (map moved zs) ≡ true
all_moved [] h = refl
all_moved (z ∷ zs) h =
    let parts = and_parts (is_at_most most_number z) (list_all (is_at_most most_number) zs) h in
    and_from (is_at_most most_affine (moved z)) _ (moved_small z parts.0) (all_moved zs parts.1)

mapped_long : (f : ℤ → ℤ) (zs : List ℤ) → length (map f zs) ≡ length zs
mapped_long f [] = refl
mapped_long f (z ∷ zs) = let e = mapped_long f zs in omega (arith, e)

-- a row whose constant is no lower than that of each difference
abbrev pub is_difference : ℕ → Form → Bool
is_difference depth row = (nat_eq (length row.coefs) depth && list_all (is_at_most most_number) row.coefs) && is_at_most most_number row.constant

pub left_fits : (depth : ℕ) (row : Form) → is_difference depth row ≡ true → form_fits depth (left_side row) ≡ true
left_fits depth row h =
    let parts = and_parts (nat_eq (length row.coefs) depth && list_all (is_at_most most_number) row.coefs) (is_at_most most_number row.constant) h in
    let coefs = and_parts (nat_eq (length row.coefs) depth) (list_all (is_at_most most_number) row.coefs) parts.0 in
    let long : nat_eq (length (map near row.coefs)) depth ≡ true = ap (λ (n : ℕ). nat_eq n depth) (mapped_long near row.coefs) ∙ coefs.0 in
    and_from (coefs_fit depth (left_side row)) (constant_fits (left_side row))
    (and_from (nat_eq (length (map near row.coefs)) depth) _ long (all_near row.coefs)) (far_small row.constant parts.1)

pub right_fits : (depth : ℕ) (row : Form) → is_difference depth row ≡ true → form_fits depth (right_side row) ≡ true
right_fits depth row h =
    let parts = and_parts (nat_eq (length row.coefs) depth && list_all (is_at_most most_number) row.coefs) (is_at_most most_number row.constant) h in
    let coefs = and_parts (nat_eq (length row.coefs) depth) (list_all (is_at_most most_number) row.coefs) parts.0 in
    let long : nat_eq (length (map moved row.coefs)) depth ≡ true = ap (λ (n : ℕ). nat_eq n depth) (mapped_long moved row.coefs) ∙ coefs.0 in
    and_from (coefs_fit depth (right_side row)) (constant_fits (right_side row))
    (and_from (nat_eq (length (map moved row.coefs)) depth) _ long (all_moved row.coefs coefs.1)) (less_near row.constant)

low_raised : (low : Bool) (z : ℤ) → is_low (record { coefs = []; constant = z }) ≡ low → int_le (neg_ℤ (pos (most_number + 1))) z ≡ true → int_le z (pos most_number) ≡ true → is_at_most most_number (raised_if low z) ≡ true
low_raised true z e h g = grind (arith, ints, nat_tests)
low_raised false z e h g = grind (arith, ints, nat_tests)

pub raised_fits_row : (depth : ℕ) (row : Form) → row_fits depth row ≡ true → is_difference depth (raised_row (is_low row) row) ≡ true
raised_fits_row depth row h =
    let a = and_parts (nat_eq (length row.coefs) depth) _ h in
    let b = and_parts (list_all (is_at_most most_number) row.coefs) _ a.1 in
    let c = and_parts (int_le (neg_ℤ (pos (most_number + 1))) row.constant) (int_le row.constant (pos most_number)) b.1 in
    and_from (nat_eq (length row.coefs) depth && list_all (is_at_most most_number) row.coefs) (is_at_most most_number (raised_if (is_low row) row.constant))
    (and_from (nat_eq (length row.coefs) depth) (list_all (is_at_most most_number) row.coefs) a.0 b.0) (low_raised (is_low row) row.constant refl c.0 c.1)

-- the difference

near_less_moved : (z : ℤ) → pos 1 *ℤ near z +ℤ negsuc 0 *ℤ moved z ≡ z
near_less_moved z = whole (near z) z
  where
    whole : (n z : ℤ) → pos 1 *ℤ n +ℤ negsuc 0 *ℤ (n -ℤ z) ≡ z
    whole n z = omega (arith, ints)

far_less_near : (z : ℤ) → pos 1 *ℤ far z +ℤ negsuc 0 *ℤ neg_ℤ (near z) ≡ z
far_less_near z = whole (near z) z
  where
    whole : (n z : ℤ) → pos 1 *ℤ (z -ℤ n) +ℤ negsuc 0 *ℤ neg_ℤ n ≡ z
    whole n z = omega (arith, ints)

coefs_back : (zs : List ℤ) → combined_coefs (pos 1) (map near zs) (negsuc 0) (map moved zs) ≡ zs
coefs_back [] = refl
coefs_back (z ∷ zs) = rw (near_less_moved z, coefs_back zs) refl

abbrev form_with : List ℤ → ℤ → Form
form_with coefs z = record { coefs = coefs; constant = z }

sides_back : (row : Form) → difference (left_side row) (right_side row) ≡ row
sides_back row = rw (coefs_back row.coefs, far_less_near row.constant) refl

lowered : (z : ℤ) → z +ℤ pos 1 -ℤ pos 1 ≡ z
lowered z = omega (arith, ints)

pub row_back : (low : Bool) (row : Form) → row_of (if low then relations.More else relations.AtLeast) (left_side (raised_row low row)) (right_side (raised_row low row)) ≡ row
row_back false row = sides_back (raised_row false row)
row_back true row = ap less_one (sides_back (raised_row true row)) ∙ ap (form_with row.coefs) (lowered row.constant)
