use Rattle.std.proofs.Common.{◌≡◌, take}
use Rattle.ch_grid.specs.Grid.{sizes}
use Rattle.ch_grid.specs.Points.{count}
use Rattle.ch_grid.proofs.grid.Grid.points.Given as goal

abbrev pub invariant-loop-param : goal.invariant-loop-param
invariant-loop-param l = l.points ≡ count (sizes (take l.param-index l.all))
