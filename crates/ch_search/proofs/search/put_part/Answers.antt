use Rattle.std.proofs.Common.{◌∙◌, ap, length}
use Rattle.ch_variant.proofs.Conditions.{rows_wide}
use Rattle.ch_workload.specs.Tuned.{Tuned}
use Rattle.ch_search.proofs.search.put_part.Goals as goal

pub put_session-requires-clause-conditions : goal.put_session-requires-clause-conditions
put_session-requires-clause-conditions c =
    rows_wide c.recipe_of.result.now c.session.inside.grid.params c.as_slice.result.now (ap (λ (s : Tuned). length s.params) c.session.view_is ∙ c.recipe_of.ensures.params)
    (c.as_slice.ensures ∙ c.in_ok-conditions.ensures)
