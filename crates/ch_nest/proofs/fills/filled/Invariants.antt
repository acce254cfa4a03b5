use Rattle.std.proofs.Common.{◌≡◌, ◌++◌, drop}
use Rattle.ch_nest.specs.Fills.{filled_cells}
use Rattle.ch_nest.proofs.fills.filled.Given as goal

abbrev pub invariant-loop-k : goal.invariant-loop-k
invariant-loop-k l = l.cells ++ filled_cells (drop l.k l.arrays) (drop l.k l.fills) ≡ filled_cells l.arrays l.fills
