use Rattle.std.proofs.Common.{◌∙◌, sym, refl}
use Rattle.ch_timed.specs.Conflict.{cell_of}
use Rattle.ch_order.proofs.Clashes.{reads_parts, or_first, or_second}
use Rattle.ch_order.proofs.cells.+reads_cell.Goals as goal

pub returns-then-reads_cell : goal.returns-then-reads_cell
returns-then-reads_cell t c =
    let parts = reads_parts c.args.expr.now c.in-Add.x c.in-Add.y c.get-in-Add.result.now c.in-Add.y (cell_of c.args.their_iters.now c.args.access.now) c.args.iters.now c.get-in-Add.ensures refl c.in-Add.is in
    or_first _ _ _ c.reads_cell-in-Add.ensures c.if-reads_cell.true ∙ sym parts

pub returns-else-reads_cell : goal.returns-else-reads_cell
returns-else-reads_cell t c =
    let parts = reads_parts c.args.expr.now c.in-Add.x c.in-Add.y c.get-in-Add.result.now c.get-else-reads_cell.result.now (cell_of c.args.their_iters.now c.args.access.now) c.args.iters.now
    c.get-in-Add.ensures c.get-else-reads_cell.ensures c.in-Add.is in
    or_second _ _ _ _ c.reads_cell-in-Add.ensures c.if-reads_cell.false c.reads_cell-else-reads_cell.ensures ∙ sym parts
