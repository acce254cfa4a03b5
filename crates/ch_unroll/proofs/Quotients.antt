-- Quotients and remainders of loop values.
use Rattle.std.proofs.Common.{◌≡◌, sym, ap, ◌∙◌, ℕ, ◌<◌, ◌≤◌, ◌/◌, ℤ, pos, negsuc, unsigned_abs, ◌+ℤ◌, ◌*ℤ◌, ◌≤ℤ◌, arith}
use Rattle.std.specs.Int.{int_div_euclid, int_rem_euclid}
use Rattle.std.proofs.lemmas.Int.{ints}
use Rattle.std.proofs.lemmas.Nat.{le-div}
use Rattle.std.proofs.Math.Nat.{div-le_self, div-mul-le_self}
use Rattle.std.proofs.Math.IntN.{*ℤ_comm}
use Rattle.ch_order.proofs.Euclid.{remainder, split, unique}

less_parts : (a b t : ℕ) → 0 < t → a ≤ b → a / t ≤ b / t
less_parts a b t some h = let m = div-mul-le_self a t in le-div (a / t) b t some (omega arith)

-- the quotient grows with the value
pub quotient_grows : (t : ℕ) (x y : ℤ) → 0 < t → x ≤ℤ y → int_div_euclid x (pos t) ≤ℤ int_div_euclid y (pos t)
quotient_grows t (pos a) (pos b) some h = let m : a ≤ b = omega (arith, ints) in let l = less_parts a b t some m in omega (arith, ints)
quotient_grows t (pos a) (negsuc b) some h = absurd (omega (arith, ints))
quotient_grows t (negsuc a) (pos b) some h = omega (arith, ints)
quotient_grows t (negsuc a) (negsuc b) some h = let m : b ≤ a = omega (arith, ints) in let l = less_parts b a t some m in omega (arith, ints)

-- and isn't further from 0
pub quotient_near : (z : ℤ) (b : ℕ) → unsigned_abs (int_div_euclid z (pos b)) ≤ unsigned_abs z
quotient_near (pos a) b = div-le_self a b
quotient_near (negsuc a) b = let l = div-le_self a b in omega arith

-- a value has one quotient and one remainder
pub record IsParted (x q : ℤ) (b r : ℕ) : Type 0 where
  pub less : r < b
  pub is : x ≡ pos b *ℤ q +ℤ pos r
  pub quotient : int_div_euclid x (pos b) ≡ q
  pub remainder : int_rem_euclid x (pos b) ≡ pos r

pub parted : (x : ℤ) (b : ℕ) → 0 < b → (r : ℕ) × IsParted x (int_div_euclid x (pos b)) b r
parted x b some =
    let rest = remainder x b some in
    let whole = split x b some ∙ ap (λ y. int_div_euclid x (pos b) *ℤ pos b +ℤ y) rest.1.0 in
    let c = *ℤ_comm (pos b) (int_div_euclid x (pos b)) in
    (rest.0, record { less = rest.1.1; is = whole ∙ ap (λ y. y +ℤ pos rest.0) (sym c); quotient = λ i. int_div_euclid x (pos b); remainder = rest.1.0 })

pub parted_by : (x q : ℤ) (b r : ℕ) → r < b → x ≡ pos b *ℤ q +ℤ pos r → IsParted x q b r
parted_by x q b r l e =
    let some : 0 < b = omega arith in
    let rest = remainder x b some in
    let c = *ℤ_comm (pos b) q in
    let whole = sym (split x b some ∙ ap (λ y. int_div_euclid x (pos b) *ℤ pos b +ℤ y) rest.1.0) ∙ e ∙ ap (λ y. y +ℤ pos r) c in
    let same = unique b (int_div_euclid x (pos b)) q rest.0 r rest.1.1 l whole in
    record { less = l; is = e; quotient = same.0; remainder = rest.1.0 ∙ ap pos same.1 }
