-- A box whose first variables are fixed, and the room of a search.
use Rattle.std.specs.Prelude.{ℕ, ℤ, pos, ◌≡◌, ◌≤◌, ◌<◌, ◌≤ℤ◌, List, length}
use Rattle.ch_affine.specs.Form.{Form}
use Rattle.ch_poly.specs.Boxes.{at, Within}
use Rattle.ch_poly.specs.Goals.{Reaches}

-- the first n ranges of the second box are single numbers, which lie in the first box
pub record IsFixed (n : ℕ) (fixed lows highs lows' highs' : List ℤ) : Type 0 where
  pub same_lows : length lows' ≡ length lows
  pub same_highs : length highs' ≡ length highs
  pub front_low : (k : ℕ) → k < n → at lows' k ≡ at fixed k
  pub front_high : (k : ℕ) → k < n → at highs' k ≡ at fixed k
  pub in_low : (k : ℕ) → k < n → at lows k ≤ℤ at fixed k
  pub in_high : (k : ℕ) → k < n → at fixed k ≤ℤ at highs k
  pub back_low : (k : ℕ) → n ≤ k → at lows' k ≡ at lows k
  pub back_high : (k : ℕ) → n ≤ k → at highs' k ≡ at highs k

pub record Begins (fixed p : List ℤ) : Type 0 where
  pub each : (k : ℕ) → k < length fixed → at p k ≡ at fixed k

-- some point of the box begins so, and the rows hold at it
pub record HasPoint (rows : List Form) (fixed lows highs : List ℤ) : Type 0 where
  pub point : List ℤ
  pub within : Within lows highs point
  pub holds : Reaches (pos 0) rows point
  pub begins : Begins fixed point
