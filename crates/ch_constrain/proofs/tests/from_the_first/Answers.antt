use Rattle.std.proofs.Common.{◌∙◌}
use Rattle.ch_constrain.proofs.Scanned.{first_number}
use Rattle.ch_grid.proofs.Sizes.{count_all}
use Rattle.ch_grid.specs.Grid.{sizes}
use Rattle.ch_constrain.proofs.tests.from_the_first.Goals as goal

pub point_at-requires : goal.point_at-requires
point_at-requires c = count_all c.args.grid.now.params

pub nearest-requires-clause-point : goal.nearest-requires-clause-point
nearest-requires-clause-point c =
    (first_number (sizes c.args.grid.now.params) c.as_slice.result.now (c.as_slice.ensures ∙ c.in_ok-first.ensures) (count_all c.args.grid.now.params)).0
