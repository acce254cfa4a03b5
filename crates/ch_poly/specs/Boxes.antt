-- A box, by the lows and the highs of its ranges, and the greatest value of a form in it.
use Rattle.std.specs.Prelude.{ℕ, ℤ, pos, negsuc, ◌≡◌, ◌≤◌, ◌<◌, ◌^◌, ◌+◌, ◌+ℤ◌, ◌-ℤ◌, ◌*ℤ◌, ◌≤ℤ◌, unsigned_abs, List, [], ◌∷◌, length, slice_index_or}
use Rattle.std.specs.List.{All}
use Rattle.ch_affine.specs.Form.{Form}
use Rattle.ch_affine.specs.Affine.{IsAtMost}

abbrev pub at : List ℤ → ℕ → ℤ
at xs k = slice_index_or xs k (pos 0)

-- each range has a number, and ends of magnitude at most 2^54
pub record IsBoxed (lows highs : List ℤ) : Type 0 where
  pub few : length lows ≤ 4096
  pub same : length highs ≡ length lows
  pub low_small : All (IsAtMost (2 ^ 54)) lows
  pub high_small : All (IsAtMost (2 ^ 54)) highs
  pub some : (k : ℕ) → k < length lows → at lows k ≤ℤ at highs k

-- the point lies in the box
pub record Within (lows highs p : List ℤ) : Type 0 where
  pub same : length p ≡ length lows
  pub low : (k : ℕ) → k < length lows → at lows k ≤ℤ at p k
  pub high : (k : ℕ) → k < length lows → at p k ≤ℤ at highs k

-- the second box lies in the first
pub record Inside (lows highs lows' highs' : List ℤ) : Type 0 where
  pub same_lows : length lows' ≡ length lows
  pub same_highs : length highs' ≡ length highs
  pub low : (k : ℕ) → k < length lows → at lows k ≤ℤ at lows' k
  pub high : (k : ℕ) → k < length lows → at highs' k ≤ℤ at highs k

-- the greatest value of a coefficient times a number of the range
abbrev pub peak : ℤ → ℤ → ℤ → ℤ
peak (pos c) low high = pos c *ℤ high
peak (negsuc c) low high = negsuc c *ℤ low

abbrev pub peaks : List ℤ → List ℤ → List ℤ → ℤ
peaks [] lows highs = pos 0
peaks (c ∷ cs) [] highs = pos 0
peaks (c ∷ cs) (l ∷ lows) [] = pos 0
peaks (c ∷ cs) (l ∷ lows) (h ∷ highs) = peak c l h +ℤ peaks cs lows highs

-- the greatest value of a form in the box
abbrev pub greatest : Form → List ℤ → List ℤ → ℤ
greatest f lows highs = f.constant +ℤ peaks f.coefs lows highs

-- the sum of the ranges' widths
abbrev pub widths : List ℤ → List ℤ → ℕ
widths [] highs = 0
widths (l ∷ lows) [] = 0
widths (l ∷ lows) (h ∷ highs) = unsigned_abs (h -ℤ l) + widths lows highs
