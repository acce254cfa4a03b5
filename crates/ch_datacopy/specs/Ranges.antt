-- Ranges for the values of forms at the points of a box.
use Rattle.std.specs.Prelude.{◌≤ℤ◌, ℕ, ℤ, pos, neg_ℤ, int_lt, if◌then◌else◌, IsTrue, List, [], ◌∷◌}
use Rattle.ch_affine.specs.Affine.{IsAtMost, value}
use Rattle.ch_affine.specs.Form.{Form}
use Rattle.ch_affine.specs.Rows.{lies_in}
use Rattle.ch_affine.specs.declared.system.Range.{Range}

-- the number, or the nearest one of at most that magnitude
abbrev pub clamped : ℕ → ℤ → ℤ
clamped most z =
    if int_lt z (neg_ℤ (pos most)) then neg_ℤ (pos most) else (if int_lt (pos most) z then pos most else z)

-- the form has a value of at most that magnitude at some point of the box
abbrev pub HasSmall : ℕ → List Range → Form → Type 0
HasSmall most boxes f = (x : List ℤ) × IsTrue (lies_in boxes x) × IsAtMost most (value f x)

-- the range has each such value, and no number above that magnitude
pub record IsRangeOf (most : ℕ) (boxes : List Range) (f : Form) (r : Range) : Type 0 where
  pub low : IsAtMost most r.low
  pub high : IsAtMost most r.high
  pub some : r.low ≤ℤ r.high
  pub has : (x : List ℤ) → IsTrue (lies_in boxes x) → IsAtMost most (value f x)
      → (r.low ≤ℤ value f x) × (value f x ≤ℤ r.high)

abbrev pub AreRangesOf : ℕ → List Range → List Form → List Range → Type 0
AreRangesOf most boxes [] [] = Unit {0}
AreRangesOf most boxes [] (r ∷ rs) = ⊥
AreRangesOf most boxes (f ∷ fs) [] = ⊥
AreRangesOf most boxes (f ∷ fs) (r ∷ rs) = IsRangeOf most boxes f r × AreRangesOf most boxes fs rs
