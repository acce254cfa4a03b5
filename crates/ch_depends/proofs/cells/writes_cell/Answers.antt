use Rattle.std.proofs.Common.{◌∙◌, sym}
use Rattle.ch_depends.proofs.Gathered.{writes_at}
use Rattle.ch_depends.proofs.cells.writes_cell.Goals as goal

pub returns-in-Some : goal.returns-in-Some
returns-in-Some c = c.same_cell.ensures ∙ sym (writes_at c.args.cell.now c.args.cells.now c.in-Some.written.now c.in-Some.ensures.value)
