-- The two rows of a tile: its number is the quotient of the value by the size.
use Rattle.std.proofs.Common.{◌≡◌, refl, sym, ap, ◌∙◌, ℕ, ◌<◌, ℤ, pos, negsuc, neg_ℤ, ◌+ℤ◌, ◌-ℤ◌, ◌*ℤ◌, ◌≤ℤ◌, List, ◌∷◌, ◌++◌, length, arith}
use Rattle.std.proofs.lemmas.Int.{ints}
use Rattle.std.proofs.Math.IntN.{*ℤ_comm, zero-*ℤ}
use Rattle.std.specs.Int.{int_div_euclid}
use Rattle.ch_affine.specs.Affine.{dot, form, value}
use Rattle.ch_affine.proofs.Integers.{plus_times}
use Rattle.ch_order.proofs.Euclid.{remainder, split, unique}
use Rattle.ch_moved.proofs.Values.{length_zeros}
use Rattle.ch_space.specs.Built.{zeros}
use Rattle.ch_space.proofs.Rowed.{dot_front, dot_zeros}

last_dot : (b x : ℤ) (n : ℕ) (post : List ℤ) → dot (b ∷ zeros n) (x ∷ post) ≡ b *ℤ x
last_dot b x n post = let z = dot_zeros n post in omega (arith, ints)

-- two coefficients, the others being 0
pub row_value : (m n : ℕ) (a b k f x : ℤ) (pre mid post : List ℤ) → length mid ≡ m
    → value (form (zeros (length pre) ++ a ∷ (zeros m ++ b ∷ zeros n)) k) (pre ++ f ∷ (mid ++ x ∷ post)) ≡ k +ℤ (a *ℤ f +ℤ b *ℤ x)
row_value m n a b k f x pre mid post l =
    let one = dot_front (zeros (length pre)) (a ∷ (zeros m ++ b ∷ zeros n)) pre (f ∷ (mid ++ x ∷ post)) (length_zeros (length pre)) in
    let two = dot_front (zeros m) (b ∷ zeros n) mid (x ∷ post) (length_zeros m ∙ sym l) in
    let z = dot_zeros (length pre) pre in
    let y = dot_zeros m mid in
    let w = last_dot b x n post in
    omega (arith, ints, one, two, z, y, w)

neg_times : (a x : ℤ) → neg_ℤ a *ℤ x ≡ neg_ℤ (a *ℤ x)
neg_times a x =
    let z : neg_ℤ a +ℤ a ≡ pos 0 = omega (arith, ints) in
    let e : (neg_ℤ a +ℤ a) *ℤ x ≡ pos 0 = ap (λ t. t *ℤ x) z ∙ zero-*ℤ x in
    omega (arith, ints, e, plus_times (neg_ℤ a) a x)

-- a number of tiles and what is left of a tile
quotient_of : (t : ℕ) (x f : ℤ) (r : ℕ) → r < t → x ≡ f *ℤ pos t +ℤ pos r → f ≡ int_div_euclid x (pos t)
quotient_of t x f r l e =
    let some : 0 < t = omega arith in
    let rest = remainder x t some in
    let whole = sym e ∙ split x t some ∙ ap (λ y. int_div_euclid x (pos t) *ℤ pos t +ℤ y) rest.1.0 in
    (unique t f (int_div_euclid x (pos t)) r rest.0 l rest.1.1 whole).0

pub in_tile : (t : ℕ) (x f : ℤ) → pos 0 ≤ℤ (pos 0 +ℤ (neg_ℤ (pos t) *ℤ f +ℤ pos 1 *ℤ x)) → pos 0 ≤ℤ ((pos t -ℤ pos 1) +ℤ (pos t *ℤ f +ℤ negsuc 0 *ℤ x)) → f ≡ int_div_euclid x (pos t)
in_tile t x f low high =
    let n = neg_times (pos t) f in
    let c = *ℤ_comm (pos t) f in
    let r : ℕ = natural (x -ℤ f *ℤ pos t) in
    let e = natural_is (x -ℤ f *ℤ pos t) (omega (arith, ints)) in
    quotient_of t x f (natural (x -ℤ f *ℤ pos t)) (omega (arith, ints)) (omega (arith, ints))
  where
    natural : ℤ → ℕ
    natural (pos n) = n
    natural (negsuc n) = 0

    natural_is : (z : ℤ) → pos 0 ≤ℤ z → z ≡ pos (natural z)
    natural_is (pos n) h = refl
    natural_is (negsuc n) h = absurd (omega (arith, ints))

pub tile_in : (t : ℕ) (x f : ℤ) → 0 < t → f ≡ int_div_euclid x (pos t)
    → (pos 0 ≤ℤ (pos 0 +ℤ (neg_ℤ (pos t) *ℤ f +ℤ pos 1 *ℤ x))) × (pos 0 ≤ℤ ((pos t -ℤ pos 1) +ℤ (pos t *ℤ f +ℤ negsuc 0 *ℤ x)))
tile_in t x f some e =
    let n = neg_times (pos t) f in
    let c = *ℤ_comm (pos t) f in
    let rest = remainder x t some in
    let whole = split x t some ∙ ap (λ y. int_div_euclid x (pos t) *ℤ pos t +ℤ y) rest.1.0 ∙ ap (λ y. y *ℤ pos t +ℤ pos rest.0) (sym e) in
    let l = rest.1.1 in
    (omega (arith, ints), omega (arith, ints))
