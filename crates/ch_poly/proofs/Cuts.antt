-- How far below its greatest value a term may be, and what that leaves of a range.
use Rattle.std.proofs.Common.{◌≡◌, ℕ, zero, suc, ◌*◌, ◌/◌, ◌<◌, ◌≤◌, ℤ, pos, negsuc, ◌+ℤ◌, ◌*ℤ◌, ◌-ℤ◌, ◌≤ℤ◌, ◌<ℤ◌, unsigned_abs, ap, ◌∙◌, arith}
use Rattle.std.proofs.lemmas.Int.{ints}
use Rattle.std.proofs.lemmas.Nat.{le-div}
use Rattle.std.proofs.Math.IntN.{neg_ℤ, pos-*ℤ-pos, negsuc-*ℤ-pos}
use Rattle.ch_affine.proofs.Integers.{times_plus}
use Rattle.ch_poly.specs.Boxes.{peak}

pub times_add : (c x : ℤ) (d : ℕ) → c *ℤ (x +ℤ pos d) ≡ c *ℤ x +ℤ c *ℤ pos d
times_add c x d = times_plus c x (pos d)

-- two numbers in order, by how far apart they are
pub apart : (x y : ℤ) → x ≤ℤ y → y ≡ x +ℤ pos (unsigned_abs (y -ℤ x))
apart x y h = omega (arith, ints)

pub term_up : (c : ℕ) (x high : ℤ) → x ≤ℤ high → pos c *ℤ high ≡ pos c *ℤ x +ℤ pos (c * unsigned_abs (high -ℤ x))
term_up c x high h =
    ap (λ y. pos c *ℤ y) (apart x high h) ∙ times_add (pos c) x (unsigned_abs (high -ℤ x)) ∙ ap (λ y. pos c *ℤ x +ℤ y) (pos-*ℤ-pos c (unsigned_abs (high -ℤ x)))

pub term_down : (c : ℕ) (x low : ℤ) → low ≤ℤ x → negsuc c *ℤ low ≡ negsuc c *ℤ x +ℤ pos (suc c * unsigned_abs (x -ℤ low))
term_down c x low h =
    let d : ℕ = unsigned_abs (x -ℤ low) in
    let e : negsuc c *ℤ x ≡ negsuc c *ℤ low +ℤ neg_ℤ (pos (suc c * d)) = ap (λ y. negsuc c *ℤ y) (apart low x h) ∙ times_add (negsuc c) low d ∙ ap (λ y. negsuc c *ℤ low +ℤ y) (negsuc-*ℤ-pos c d) in
    omega (arith, ints, e)

pub term_le : (c low high x : ℤ) → low ≤ℤ x → x ≤ℤ high → (c *ℤ x) ≤ℤ peak c low high
term_le (pos c) low high x l h = omega (arith, ints, term_up c x high h)
term_le (negsuc c) low high x l h = omega (arith, ints, term_down c x low l)

pub cut_low : (coef x low high new : ℤ) (slack size spare : ℕ) → pos 0 <ℤ coef → size ≡ unsigned_abs coef → spare ≡ slack / size → new +ℤ pos spare ≡ high
    → x ≤ℤ high → peak coef low high ≤ℤ (coef *ℤ x +ℤ pos slack) → new ≤ℤ x
cut_low (pos c) x low high new slack size spare more s q n h p =
    let d : ℕ = unsigned_abs (high -ℤ x) in
    let small : d * c ≤ slack = omega (arith, ints, term_up c x high h) in
    let some : 0 < c = omega (arith, ints) in
    let near : d ≤ slack / c = le-div d slack c some small in
    let same : slack / size ≡ slack / c = ap (λ y. slack / y) s in
    omega (arith, ints)
cut_low (negsuc c) x low high new slack size spare more s q n h p = omega (arith, ints)

pub cut_high : (coef x low high new : ℤ) (slack size spare : ℕ) → coef <ℤ pos 0 → size ≡ unsigned_abs coef → spare ≡ slack / size → new ≡ low +ℤ pos spare
    → low ≤ℤ x → peak coef low high ≤ℤ (coef *ℤ x +ℤ pos slack) → x ≤ℤ new
cut_high (pos c) x low high new slack size spare less s q n h p = omega (arith, ints)
cut_high (negsuc c) x low high new slack size spare less s q n h p =
    let d : ℕ = unsigned_abs (x -ℤ low) in
    let small : d * suc c ≤ slack = omega (arith, ints, term_down c x low h) in
    let some : 0 < suc c = omega arith in
    let near : d ≤ slack / suc c = le-div d slack (suc c) some small in
    let same : slack / size ≡ slack / suc c = ap (λ y. slack / y) s in
    omega (arith, ints)

pub some_size : (slack size width : ℕ) → slack < size * width → 0 < size
some_size slack zero width h = absurd (omega arith)
some_size slack (suc size) width h = omega arith
