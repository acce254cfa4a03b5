-- A point of a box has numbers as small as the box's ends.
use Rattle.std.proofs.Common.{◌≡◌, ◌^◌, ◌≤ℤ◌, ℤ, Bool, true, false, ◌&&◌, int_le, List, [], ◌∷◌, arith, rules}
use Rattle.std.specs.List.{All}
use Rattle.std.proofs.lemmas.Int.{ints}
use Rattle.std.proofs.lemmas.List.Elements.{All-nil, All-cons, All-head, All-tail}
use Rattle.ch_affine.specs.declared.system.Range.{Range}
use Rattle.ch_affine.specs.Affine.{IsAtMost}
use Rattle.ch_affine.specs.Rows.{IsBox, lies_in}

-- the three parts of a test
record All3 (a b c : Bool) : Type 0 where
  one : a ≡ true
  two : b ≡ true
  three : c ≡ true

both : (a b c : Bool) → (a && b && c) ≡ true → All3 a b c
both true true c e = record { one = search rules; two = search rules; three = e }
both true false c e = absurd cc
both false b c e = absurd cc

between : (b : Range) (x : ℤ) → IsBox b → int_le b.low x ≡ true → int_le x b.high ≡ true → IsAtMost (2 ^ 54) x
between b x box low high =
    let l : b.low ≤ℤ x = grind (arith, ints) in
    let h : x ≤ℤ b.high = grind (arith, ints) in
    omega (arith, ints, box.low, box.high)

pub lies_small : (boxes : List Range) (point : List ℤ) → All IsBox boxes → lies_in boxes point ≡ true → All (IsAtMost (2 ^ 54)) point
lies_small [] [] each e = All-nil (IsAtMost (2 ^ 54))
lies_small [] (x ∷ point) each e = absurd cc
lies_small (b ∷ boxes) [] each e = absurd cc
lies_small (b ∷ boxes) (x ∷ point) each e =
    let t = both (int_le b.low x) (int_le x b.high) (lies_in boxes point) e in
    All-cons (IsAtMost (2 ^ 54)) x point (between b x (All-head IsBox b boxes each) t.one t.two) (lies_small boxes point (All-tail IsBox b boxes each) t.three)
