use Rattle.std.proofs.Common.{get_or, arith}
use Rattle.std.proofs.lemmas.List.{get_or_default}
use Rattle.ch_eval.proofs.Placing.{capped_first}
use Rattle.ch_eval.proofs.eval.+capped_cells.Goals as goal

pub returns-in-len1-up : goal.returns-in-len1-up
returns-in-len1-up t c =
    let first = get_or c.args.extents.now 0 0 in
    capped_first first c.args.extents.now c.capped_cells.result c.product.result c.in-len1-up.len_at_least
    (get_or_default c.args.extents.now 0 0 first (omega (arith, c.in-len1-up.len_at_least))) c.capped_cells.ensures c.product.ensures
