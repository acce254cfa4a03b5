use Rattle.std.proofs.Common.{◌∙◌}
use Rattle.ch_variant.proofs.Conditions.{rows_wide, used_in_grid, used_some}
use Rattle.ch_variant.proofs.point.used_point.Goals as goal

pub nearest-requires-clause-rows : goal.nearest-requires-clause-rows
nearest-requires-clause-rows c =
    rows_wide c.args.recipe.now c.args.grid.now.params c.as_slice.result.now c.requires.params (c.as_slice.ensures ∙ c.in_ok-rows.ensures)

pub returns-in-Some-clause-exact : goal.returns-in-Some-clause-exact
returns-in-Some-clause-exact c =
    used_some c.args.recipe.now c.args.grid.now.params c.args.point.now c.as_slice.result.now _ c.in-Some.used (c.as_slice.ensures ∙ c.in_ok-rows.ensures)
    c.in_ok-used.ensures.value c.in-Some.is

pub returns-in-Some-clause-in_grid : goal.returns-in-Some-clause-in_grid
returns-in-Some-clause-in_grid c =
    used_in_grid _ c.args.grid.now.params c.as_slice.result.now c.args.point.now _ c.in-Some.used c.in_ok-used.ensures.least c.in-Some.is
