-- Forms of one variable are small, and give its value.
use Rattle.std.proofs.Common.{◌≡◌, refl, sym, ap₂, ◌∙◌, subst, ℕ, zero, suc, ◌+◌, ◌<◌, ◌^◌, ℤ, pos, List, [], ◌∷◌, ◌++◌, length, arith, append_assoc, length-append}
use Rattle.std.specs.List.{All}
use Rattle.std.proofs.lemmas.Int.{ints}
use Rattle.std.proofs.lemmas.List.Elements.{All-append, All-cons, All-nil}
use Rattle.ch_affine.specs.Affine.{IsAtMost, IsSmall, value}
use Rattle.ch_space.specs.Built.{unit, units, zeros}
use Rattle.ch_space.proofs.Rowed.{dot_front, dot_zeros, one_times}
use Rattle.ch_moved.specs.Substituted.{image}
use Rattle.ch_moved.proofs.Substitutes.{length_zeros}

small_zeros : (n : ℕ) → All (IsAtMost (2 ^ 60)) (zeros n)
small_zeros zero = All-nil (IsAtMost (2 ^ 60))
small_zeros (suc n) = All-cons (IsAtMost (2 ^ 60)) (pos 0) (zeros n) (omega arith) (small_zeros n)

small_unit : (before after : ℕ) → All (IsAtMost (2 ^ 60)) (zeros before ++ pos 1 ∷ zeros after)
small_unit before after = All-append (IsAtMost (2 ^ 60)) (zeros before) (pos 1 ∷ zeros after) (small_zeros before) (All-cons (IsAtMost (2 ^ 60)) (pos 1) (zeros after) (omega arith) (small_zeros after))

pub length_unit : (before after : ℕ) → length (zeros before ++ pos 1 ∷ zeros after) ≡ before + (after + 1)
length_unit before after =
    let a = length-append (zeros before) (pos 1 ∷ zeros after) in
    let b = length_zeros before in
    let c = length_zeros after in
    omega arith

pub unit_is_small : (before after : ℕ) (made : List ℤ) → before + after < 4096 → made ≡ (unit before after).coefs → IsSmall (record { coefs = made; constant = pos 0 })
unit_is_small before after made l e = subst (λ t. IsSmall (record { coefs = t; constant = pos 0 })) (sym e) (record {
  few = let n = length_unit before after in omega arith;
  coefs = small_unit before after;
  constant = omega arith;
})

-- the forms of all variables give the point itself

value_unit : (pre post : List ℤ) (x : ℤ) (after : ℕ) → value (unit (length pre) after) (pre ++ x ∷ post) ≡ x
value_unit pre post x after =
    let one = dot_front (zeros (length pre)) (pos 1 ∷ zeros after) pre (x ∷ post) (length_zeros (length pre)) in
    let z = dot_zeros (length pre) pre in
    let y = dot_zeros after post in
    let o = one_times x in
    omega (arith, ints, one, z, y, o)

units_from : (pre ys : List ℤ) → image (units (length pre) (length ys)) (pre ++ ys) ≡ ys
units_from pre [] = refl
units_from pre (y ∷ ys) =
    let l : length (pre ++ y ∷ []) ≡ suc (length pre) = length-append pre (y ∷ []) ∙ omega arith in
    ap₂ (λ v t. v ∷ t) (value_unit pre ys y (length ys))
    (ap₂ (λ n zs. image (units n (length ys)) zs) (sym l) (sym (append_assoc pre (y ∷ []) ys)) ∙ units_from (pre ++ y ∷ []) ys)

pub image_units : (n : ℕ) (ys : List ℤ) → length ys ≡ n → image (units 0 n) ys ≡ ys
image_units n ys l = subst (λ m. image (units 0 m) ys ≡ ys) l (units_from [] ys)
