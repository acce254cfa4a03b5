-- What is left of a box's ranges once one row has cut them.
use Rattle.std.specs.Prelude.{ℕ, ℤ, pos, ◌≡◌, ◌≤◌, ◌<◌, ◌+ℤ◌, ◌*ℤ◌, ◌≤ℤ◌, List, length}
use Rattle.ch_poly.specs.Boxes.{at, peak, Within}

-- no term of the row is further below its greatest value than the slack
pub record IsNear (coefs : List ℤ) (slack : ℕ) (lows highs p : List ℤ) : Type 0 where
  pub near : (k : ℕ) → k < length lows → peak (at coefs k) (at lows k) (at highs k) ≤ℤ (at coefs k *ℤ at p k +ℤ pos slack)

pub record KeepsNear (coefs : List ℤ) (slack : ℕ) (lows highs lows' highs' : List ℤ) : Type 0 where
  pub kept : (p : List ℤ) → Within lows highs p → IsNear coefs slack lows highs p → Within lows' highs' p

-- all numbers of the range that are so near are kept
pub record KeepsNumber (coef : ℤ) (slack : ℕ) (low high low' high' : ℤ) : Type 0 where
  pub above : (x : ℤ) → low ≤ℤ x → x ≤ℤ high → peak coef low high ≤ℤ (coef *ℤ x +ℤ pos slack) → low' ≤ℤ x
  pub below : (x : ℤ) → low ≤ℤ x → x ≤ℤ high → peak coef low high ≤ℤ (coef *ℤ x +ℤ pos slack) → x ≤ℤ high'

-- only the number at k may be another
pub record IsSameBut (k : ℕ) (xs ys : List ℤ) : Type 0 where
  pub other : (j : ℕ) → (j ≡ k → ⊥) → at ys j ≡ at xs j

pub record IsSameFrom (k : ℕ) (xs ys : List ℤ) : Type 0 where
  pub other : (j : ℕ) → k ≤ j → at ys j ≡ at xs j
