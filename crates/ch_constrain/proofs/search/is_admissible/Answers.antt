use Rattle.std.proofs.Common.{◌∙◌, length}
use Rattle.ch_constrain.proofs.Onward.{numbers_small, rows_fit}
use Rattle.ch_constrain.proofs.search.is_admissible.Goals as goal

pub all_met-requires-clause-same : goal.all_met-requires-clause-same
all_met-requires-clause-same c =
    rows_fit c.args.grid.now.params c.args.point.now c.as_slice.result.now (c.as_slice.ensures ∙ c.in_ok-values.ensures.exact) c.requires.point (λ row. length row.coefs) c.args.rows.now c.requires.rows

pub all_met-requires-clause-small : goal.all_met-requires-clause-small
all_met-requires-clause-small c =
    numbers_small c.args.grid.now.params c.args.point.now c.as_slice.result.now (c.as_slice.ensures ∙ c.in_ok-values.ensures.exact) c.requires.point c.args.grid.now.within
