use Rattle.std.proofs.Common.{◌+◌, ◌-◌, ap, sym, ◌∙◌, length}
use Rattle.ch_affine.specs.Form.{Form}
use Rattle.ch_datacopy.specs.Cells.{iterator_row}
use Rattle.ch_datacopy.proofs.Steps.{iterators_end, iterators_more}
use Rattle.ch_datacopy.proofs.rows.push_iterators.Goals as goal

pub loop-k-preserved : goal.loop-k-preserved
loop-k-preserved c =
    let o = c.index-origin-k.result in
    let long = ap (λ (g : Form). length g.coefs) c.index-origin-k.is ∙ c.requires.long c.loop-k.k o c.loop-k-test.true in
    let row = c.in_ok-row.ensures ∙ ap (λ n. iterator_row c.args.frame.around c.args.frame.cells ((c.args.frame.around + c.args.frame.inner) - n) c.loop-k.k ((c.args.frame.iters - 1) - c.loop-k.k) o) long in
    iterators_more c.args.frame.around c.args.frame.cells ((c.args.frame.around + c.args.frame.inner) - c.args.levels) c.loop-k.k ((c.args.frame.iters - 1) - c.loop-k.k) c.args.origin.now o c.in_ok-row.row
    c.loop-k.rows c.push_zero.new.rows _ c.loop-k-test.true (ap (λ n. (n - 1) - c.loop-k.k) (sym c.requires.iters)) c.index-origin-k.is row c.loop-k.invariant c.in_ok-push_zero.ensures

pub returns : goal.returns
returns c = iterators_end c.args.frame.around c.args.frame.cells ((c.args.frame.around + c.args.frame.inner) - c.args.levels) c.loop-k.k c.args.origin.now c.loop-k.rows _ c.loop-k-test.false c.loop-k.invariant
