use Rattle.std.proofs.Common.{◌-◌, ap, sym}
use Rattle.ch_datacopy.proofs.Steps.{cells_end, cells_more}
use Rattle.ch_datacopy.proofs.rows.push_cells.Goals as goal

pub loop-k-preserved : goal.loop-k-preserved
loop-k-preserved c =
    cells_more c.args.frame.around c.args.frame.inner c.loop-k.k ((c.args.frame.cells - 1) - c.loop-k.k) c.args.forms.now c.index-forms-k.result c.in_ok-row.row
    c.loop-k.rows c.push_zero.new.rows _ c.loop-k-test.true (ap (λ n. (n - 1) - c.loop-k.k) (sym c.requires.cells)) c.index-forms-k.is c.in_ok-row.ensures c.loop-k.invariant c.in_ok-push_zero.ensures

pub returns : goal.returns
returns c = cells_end c.args.frame.around c.args.frame.inner c.loop-k.k c.args.forms.now c.loop-k.rows _ c.loop-k-test.false c.loop-k.invariant
