-- The least and the greatest value of a form over a box, which it has at corners of it.
use Rattle.std.specs.Prelude.{ℤ, pos, ◌≡◌, ◌+ℤ◌, ◌*ℤ◌, ◌≤ℤ◌, int_lt, true, if◌then◌else◌, List, [], ◌∷◌}
use Rattle.ch_affine.specs.Form.{Form}
use Rattle.ch_affine.specs.Affine.{value}
use Rattle.ch_affine.specs.Rows.{lies_in}
use Rattle.ch_affine.specs.declared.system.Range.{Range}

-- the least and the greatest value of a coefficient times a number of a range
abbrev pub least_term : ℤ → Range → ℤ
least_term c r = c *ℤ (if int_lt c (pos 0) then r.high else r.low)

abbrev pub greatest_term : ℤ → Range → ℤ
greatest_term c r = c *ℤ (if int_lt c (pos 0) then r.low else r.high)

abbrev pub least_sum : List ℤ → List Range → ℤ
least_sum [] boxes = pos 0
least_sum (c ∷ cs) [] = pos 0
least_sum (c ∷ cs) (r ∷ rs) = least_term c r +ℤ least_sum cs rs

abbrev pub greatest_sum : List ℤ → List Range → ℤ
greatest_sum [] boxes = pos 0
greatest_sum (c ∷ cs) [] = pos 0
greatest_sum (c ∷ cs) (r ∷ rs) = greatest_term c r +ℤ greatest_sum cs rs

abbrev pub least_in : List Range → Form → ℤ
least_in boxes f = f.constant +ℤ least_sum f.coefs boxes

abbrev pub greatest_in : List Range → Form → ℤ
greatest_in boxes f = f.constant +ℤ greatest_sum f.coefs boxes

-- the form has this value at some point of the box
pub record HasValueIn (boxes : List Range) (f : Form) (v : ℤ) : Type 0 where
  pub point : List ℤ
  pub within : lies_in boxes point ≡ true
  pub is : value f point ≡ v

-- and nowhere in the box a smaller one
pub record IsLeastIn (boxes : List Range) (f : Form) (v : ℤ) : Type 0 where
  pub has : HasValueIn boxes f v
  pub least : (p : List ℤ) → lies_in boxes p ≡ true → v ≤ℤ value f p

-- or nowhere in the box a greater one
pub record IsGreatestIn (boxes : List Range) (f : Form) (v : ℤ) : Type 0 where
  pub has : HasValueIn boxes f v
  pub greatest : (p : List ℤ) → lies_in boxes p ≡ true → value f p ≤ℤ v
