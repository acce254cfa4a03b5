use Rattle.std.proofs.Common.{ℕ, ◌<◌}
use Rattle.ch_recipes.proofs.GridPoints.{IsIndex}
use Rattle.ch_recipes.proofs.grids.is_in.Given as goal

abbrev pub invariant-loop-k : goal.invariant-loop-k
invariant-loop-k l = (j : ℕ) → j < l.k → IsIndex l.grid.params l.point j
