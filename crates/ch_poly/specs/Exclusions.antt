-- What a fast test says of a system: why no point can meet it, by one row or by two.
use Rattle.std.specs.Prelude.{ℕ, ℤ, pos, neg_ℤ, ◌≡◌, ◌<◌, ◌<ℤ◌, unsigned_abs, List, length, slice_index_or, [], Option, Some, None}
use Prim.Native.Nat.{◌∣◌}
use Rattle.ch_affine.specs.Form.{Form}
use Rattle.ch_affine.specs.Affine.{form}
use Rattle.ch_affine.specs.Corners.{greatest_in}
use Rattle.ch_affine.specs.Rows.{Rows}
use Rattle.ch_poly.specs.Boxes.{at}
use Rattle.ch_poly.specs.declared.exclusion.Excluded.{Excluded}
use Rattle.ch_poly.specs.declared.exclusion.Excluded.TheVariants.{Gcd, Range}

-- the row at i
abbrev pub row_at : List Form → ℕ → Form
row_at rows i = slice_index_or rows i (form [] (pos 0))

-- the one row is the other's negative
pub record IsNegative (f g : Form) : Type 0 where
  pub same : length f.coefs ≡ length g.coefs
  pub each : (k : ℕ) → k < length f.coefs → at f.coefs k ≡ neg_ℤ (at g.coefs k)
  pub constant : f.constant ≡ neg_ℤ g.constant

-- the number divides each coefficient
pub record DividesAll (d : ℕ) (cs : List ℤ) : Type 0 where
  pub each : (k : ℕ) → k < length cs → d ∣ unsigned_abs (at cs k)

-- the number is their greatest common divisor: 0 where all are 0
pub record IsDivisor (d : ℕ) (cs : List ℤ) : Type 0 where
  pub divides : DividesAll d cs
  pub greatest : (e : ℕ) → DividesAll e cs → e ∣ d

-- the greatest common divisor of the coefficients does not divide the constant; 0 divides 0 alone
pub record IsUneven (f : Form) : Type 0 where
  pub divisor : ℕ
  pub is : IsDivisor divisor f.coefs
  pub not : divisor ∣ unsigned_abs f.constant → ⊥

-- the row at i is an uneven one, and a later row is its negative
pub record IsGcdRow (rows : List Form) (i : ℕ) : Type 0 where
  pub within : i < length rows
  pub uneven : IsUneven (row_at rows i)
  pub later : ℕ
  pub after : i < later
  pub later_within : later < length rows
  pub negative : IsNegative (row_at rows i) (row_at rows later)

-- the row at i is below 0 in the whole box
pub record IsRangeRow (s : Rows) (i : ℕ) : Type 0 where
  pub within : i < length s.rows
  pub low : greatest_in s.boxes (row_at s.rows i) <ℤ pos 0

-- it is so at i, and nowhere before
pub record IsFirst (P : ℕ → Type 0) (i : ℕ) : Type 0 where
  pub here : P i
  pub before : (k : ℕ) → k < i → P k → ⊥

pub record IsNowhere (P : ℕ → Type 0) : Type 0 where
  pub none : (k : ℕ) → P k → ⊥

-- the least row of the first kind, or else the least of the second
abbrev pub IsExcluded : Rows → Option Excluded → Type 0
IsExcluded s (Some (Gcd i)) = IsFirst (IsGcdRow s.rows) i
IsExcluded s (Some (Range i)) = IsNowhere (IsGcdRow s.rows) × IsFirst (IsRangeRow s) i
IsExcluded s None = IsNowhere (IsGcdRow s.rows) × IsNowhere (IsRangeRow s)
