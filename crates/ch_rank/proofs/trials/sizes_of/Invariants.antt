use Rattle.std.proofs.Common.{◌≡◌, take}
use Rattle.ch_grid.specs.Grid.{sizes}
use Rattle.ch_rank.proofs.trials.sizes_of.Given as goal

abbrev pub invariant-loop-k : goal.invariant-loop-k
invariant-loop-k l = l.sizes.items ≡ sizes (take l.k l.grid.params)
