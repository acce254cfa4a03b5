-- Whether one more command may change a piece.
use Rattle.std.specs.Prelude.{ℕ, ◌*◌, ◌<◌, ◌≤◌, pos}
use Rattle.ch_affine.specs.declared.system.Range.{Range}
use Rattle.ch_space.specs.declared.piece.Piece.{Piece}
use Rattle.ch_space.specs.Keeps.{IsLimited, most_commands, most_weight}

-- The numbers of the piece may become `by` times as large in one more command.
pub record HasRoom (by : ℕ) (p : Piece) : Type 0 where
  pub weight : ℕ
  pub commands : ℕ
  pub limited : IsLimited weight commands p
  pub some : 1 ≤ weight
  pub small : weight * by ≤ most_weight
  pub few : commands < most_commands

-- the range of 0 alone, which stands for one that isn't there
abbrev pub origin_range : Range
origin_range = record { low = pos 0; high = pos 0 }
