use Rattle.std.proofs.Common.{◌≡◌, length, map}
use Rattle.ch_eval.specs.Cells.{sizes_of}
use Rattle.ch_costs.proofs.costs.cost_again.Given as goal

abbrev pub invariant-loop : goal.invariant-loop
invariant-loop l = map length l.arrays ≡ sizes_of l.unit.arrays
