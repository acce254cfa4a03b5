-- Room for a search.
use Rattle.std.specs.Prelude.{ℕ, ℤ, ◌≡◌, ◌≤◌, ◌*◌, List, length}

-- the most variables and rows that a room is enough for
pub record Size : Type 0 where
  pub vars : ℕ
  pub rows : ℕ

-- a box for the search to work on, and at each depth another one
pub record IsRoom (lows highs others : List ℤ) : Type 0 where
  pub same : length highs ≡ length lows
  pub enough : 2 * length lows * length lows ≤ length others
