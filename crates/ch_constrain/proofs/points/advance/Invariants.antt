use Rattle.std.proofs.Common.{◌≡◌}
use Rattle.ch_constrain.specs.Nearest.{values}
use Rattle.ch_constrain.proofs.Onward.{IsCarried}
use Rattle.ch_grid.specs.Grid.{sizes}
use Rattle.ch_constrain.proofs.points.advance.Given as goal

abbrev pub invariant-loop-k : goal.invariant-loop-k
invariant-loop-k l = record {
  carried : IsCarried (sizes l.grid.params) l.initial.point l.point l.k;
  numbers : l.numbers ≡ values l.grid.params l.point;
}
