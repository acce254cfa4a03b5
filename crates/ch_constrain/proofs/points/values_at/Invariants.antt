use Rattle.std.proofs.Common.{◌≡◌, ◌++◌, drop, true}
use Rattle.ch_constrain.specs.Nearest.{values}
use Rattle.ch_grid.specs.Grid.{sizes}
use Rattle.ch_grid.specs.Points.{is_point}
use Rattle.ch_constrain.proofs.points.values_at.Given as goal

abbrev pub invariant-loop-k : goal.invariant-loop-k
invariant-loop-k l = record {
  so_far : l.values ++ values (drop l.k l.grid.params) (drop l.k l.point) ≡ values l.grid.params l.point;
  inside : is_point (drop l.k (sizes l.grid.params)) (drop l.k l.point) ≡ true;
}
