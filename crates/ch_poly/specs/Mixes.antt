-- A sum of rows, each times a number of at least 0, and what follows from the rows.
use Rattle.std.specs.Prelude.{ℕ, ℤ, pos, neg_ℤ, ◌≡◌, ◌<◌, ◌+ℤ◌, ◌-ℤ◌, ◌*ℤ◌, ◌⊎◌, unsigned_abs, List, length}
use Prim.Native.Nat.{◌∣◌}
use Rattle.ch_affine.specs.Form.{Form}
use Rattle.ch_affine.specs.Affine.{dot}
use Rattle.ch_poly.specs.Boxes.{at, peaks}
use Rattle.ch_poly.specs.Goals.{Reaches, IsAtLeast}

-- the second list is the first with so many times the row added
pub record IsAdded (factor : ℤ) (row sums sums' : List ℤ) : Type 0 where
  pub same : length sums' ≡ length sums
  pub each : (k : ℕ) → k < length row → at sums' k ≡ at sums k +ℤ factor *ℤ at row k

-- wherever the rows hold, the form has at least this value
pub record IsImplied (rows : List Form) (f : Form) (bound : ℤ) : Type 0 where
  pub implied : (p : List ℤ) → length p ≡ length f.coefs → Reaches (pos 0) rows p → IsAtLeast bound f p

-- the number divides the coefficient of each variable whose range is not a single number
pub record DividesOpen (d : ℕ) (cs lows highs : List ℤ) : Type 0 where
  pub each : (k : ℕ) → k < length cs → (at lows k ≡ at highs k) ⊎ (d ∣ unsigned_abs (at cs k))

-- and it does not divide the distance from a value that the sum has at a corner of the box
pub record IsMissed (cs : List ℤ) (bound : ℤ) (lows highs : List ℤ) : Type 0 where
  pub divisor : ℕ
  pub divides : DividesOpen divisor cs lows highs
  pub not : divisor ∣ unsigned_abs (peaks cs lows highs -ℤ bound) → ⊥

-- the sum has this value at the point
pub record IsEqualTo (cs : List ℤ) (v : ℤ) (p : List ℤ) : Type 0 where
  pub is : dot cs p ≡ v

-- wherever the rows hold, the sum has this value
pub record IsForced (rows : List Form) (cs : List ℤ) (v : ℤ) : Type 0 where
  pub forced : (p : List ℤ) → length p ≡ length cs → Reaches (pos 0) rows p → IsEqualTo cs v p

-- the second sum is the first one's negative, and so is its value
pub record AreOpposite (cs ds : List ℤ) (v w : ℤ) : Type 0 where
  pub same : length cs ≡ length ds
  pub each : (k : ℕ) → k < length cs → at cs k ≡ neg_ℤ (at ds k)
  pub sum : v +ℤ w ≡ pos 0
