use Rattle.std.proofs.Common.{◌≡◌, take}
use Rattle.ch_grid.specs.Grid.{sizes}
use Rattle.ch_rank.specs.Moves.{centre}
use Rattle.ch_check.proofs.place.centre.Given as goal

abbrev pub invariant-loop-k : goal.invariant-loop-k
invariant-loop-k l = l.point ≡ take l.k (centre (sizes l.grid.params))
