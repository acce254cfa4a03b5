-- The greatest value of a form over the points of a box that have a property.
use Rattle.std.specs.Prelude.{ℤ, ◌≡◌, ◌≤ℤ◌, List}
use Rattle.ch_affine.specs.Form.{Form}
use Rattle.ch_affine.specs.Affine.{value}
use Rattle.ch_poly.specs.Boxes.{Within}

-- the form has this value at some point
pub record HasValue (P : List ℤ → Type 0) (f : Form) (v : ℤ) (lows highs : List ℤ) : Type 0 where
  pub point : List ℤ
  pub within : Within lows highs point
  pub holds : P point
  pub is : value f point ≡ v

-- the form has no greater value at any point
pub record IsBelow (P : List ℤ → Type 0) (f : Form) (v : ℤ) (lows highs : List ℤ) : Type 0 where
  pub each : (p : List ℤ) → Within lows highs p → P p → value f p ≤ℤ v

pub record IsGreatest (P : List ℤ → Type 0) (f : Form) (v : ℤ) (lows highs : List ℤ) : Type 0 where
  pub has : HasValue P f v lows highs
  pub below : IsBelow P f v lows highs
