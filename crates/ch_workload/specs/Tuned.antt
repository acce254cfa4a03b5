-- What contracts see of a session, and what its type keeps.
use Rattle.std.specs.Prelude.{ℕ, Bool, ◌&&◌, nat_le, List}
use Rattle.ch_grid.specs.declared.param.Param.{Param}
use Rattle.ch_grid.specs.Grid.{is_within}
use Rattle.ch_workload.specs.Limits.{most_repeats}

-- the session's name, the numbers of its program and its recipe, the recipe's parameters in order, and how often a trial is measured
pub record Tuned : Type 0 where
  pub name : List ℕ
  pub program : ℕ
  pub recipe : ℕ
  pub params : List Param
  pub repeat : ℕ

abbrev pub tuned : List ℕ → ℕ → ℕ → List Param → ℕ → Tuned
tuned name program recipe params repeat =
    record { name = name; program = program; recipe = recipe; params = params; repeat = repeat }

abbrev pub are_repeats : ℕ → Bool
are_repeats n = nat_le 1 n && nat_le n most_repeats

abbrev pub is_tuned : Tuned → Bool
is_tuned s = is_within s.params && are_repeats s.repeat
