-- What stays as entries come.
use Rattle.std.specs.Prelude.{◌≡◌, ℕ, ◌<◌, ◌≤◌, List, [], length, slice_index_or, Some}
use Rattle.ch_rank.specs.declared.outcome.Outcome.{Outcome}
use Rattle.ch_rank.specs.Moves.{Point}
use Rattle.ch_rank.specs.Search.{Known}

-- each outcome that is known stays
abbrev pub Knows : Known → Known → Type 0
Knows k k' = (t : ℕ) (o : Outcome) → k t ≡ Some o → k' t ≡ Some o

-- the points so far stay where they are
pub record Keeps (ps qs : List Point) : Type 0 where
  pub long : length ps ≤ length qs
  pub same : (t : ℕ) → t < length ps → slice_index_or qs t [] ≡ slice_index_or ps t []
