use Rattle.std.proofs.Common.{◌≡◌, ◌<◌, true}
use Rattle.ch_constrain.specs.Nearest.{nearest_of, values}
use Rattle.ch_constrain.specs.Scanned.{Finds}
use Rattle.ch_grid.specs.Grid.{sizes}
use Rattle.ch_grid.specs.Points.{count, is_point, number}
use Rattle.ch_constrain.proofs.search.scan.Given as goal

abbrev pub invariant-loop-number : goal.invariant-loop-number
invariant-loop-number l = record {
  inside : is_point (sizes l.grid.params) l.other ≡ true;
  numbers : l.numbers ≡ values l.grid.params l.other;
  at : l.number < count (sizes l.grid.params) → number (sizes l.grid.params) l.other ≡ l.number;
  best : Finds l.grid.params l.point l.best (nearest_of l.grid.params l.rows l.point l.number);
}
