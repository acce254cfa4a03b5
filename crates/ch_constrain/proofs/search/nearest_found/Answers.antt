use Rattle.std.proofs.Common.{◌∙◌, ap, sym}
use Rattle.ch_constrain.specs.Nearest.{values}
use Rattle.ch_constrain.proofs.Scanned.{first_number}
use Rattle.ch_grid.proofs.Sizes.{count_all}
use Rattle.ch_grid.specs.Grid.{sizes}
use Rattle.ch_constrain.proofs.search.nearest_found.Goals as goal

pub point_at-requires : goal.point_at-requires
point_at-requires c = count_all c.args.grid.now.params

pub values_at-requires : goal.values_at-requires
values_at-requires c =
    (first_number (sizes c.args.grid.now.params) c.as_slice.result.now (c.as_slice.ensures ∙ c.in_ok-other.ensures) (count_all c.args.grid.now.params)).0

pub scan-requires-clause-other : goal.scan-requires-clause-other
scan-requires-clause-other c =
    (first_number (sizes c.args.grid.now.params) c.as_mut_slice-indices.result.now (c.as_mut_slice-indices.ensures.value ∙ c.in_ok-other.ensures) (count_all c.args.grid.now.params)).0

pub scan-requires-clause-first : goal.scan-requires-clause-first
scan-requires-clause-first c =
    (first_number (sizes c.args.grid.now.params) c.as_mut_slice-indices.result.now (c.as_mut_slice-indices.ensures.value ∙ c.in_ok-other.ensures) (count_all c.args.grid.now.params)).1

pub scan-requires-clause-numbers : goal.scan-requires-clause-numbers
scan-requires-clause-numbers c =
    c.as_mut_slice-numbers.ensures.value ∙ c.in_ok-values.ensures.exact ∙ ap (values c.args.grid.now.params) (c.as_slice.ensures ∙ sym c.as_mut_slice-indices.ensures.value)
