-- What the elements of a program cost on a machine: the numbers that a cost is counted with.
use Rattle.std.specs.Prelude.{ℕ, Bool, ◌&&◌, nat_le}
use Rattle.ch_nest.specs.Limits.{most_cache, most_charge}

-- the cost of a loop's turn that begins and that of a cell whose line isn't held, how many lines the cache
-- has, and how many cells a line has
pub record CostModel : Type 0 where
  pub turn : ℕ
  pub miss : ℕ
  pub lines : ℕ
  pub width : ℕ

abbrev pub cost_model : ℕ → ℕ → ℕ → ℕ → CostModel
cost_model turn miss lines width = record { turn = turn; miss = miss; lines = lines; width = width }

abbrev pub is_cache_size : ℕ → Bool
is_cache_size n = nat_le 1 n && nat_le n most_cache

abbrev pub is_machine : CostModel → Bool
is_machine m =
    (nat_le m.turn most_charge && nat_le m.miss most_charge)
    && (is_cache_size m.lines && is_cache_size m.width)
