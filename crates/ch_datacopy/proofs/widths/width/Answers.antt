use Rattle.std.proofs.Common.{inl, inr, arith}
use Rattle.ch_datacopy.proofs.Apart.{next_first}
use Rattle.ch_datacopy.proofs.widths.width.Goals as goal
use Rattle.ch_datacopy.proofs.widths.width.Goals.{then-wide-other, else-wide-other}

pub loop-first-preserved : goal.loop-first-preserved
loop-first-preserved c = elim c.if-wide-other.branch [
  | then-wide-other w ↦
      let t = w.if-wide-other.true in
      let e = w.wide-is in
      let n = c.in_ok-other.ensures.near in
      record {
        width = next_first c.args.around c.args.cells c.args.k c.args.all.now c.args.all.now c.loop-first.first-index c.first-item.result c.loop-first.wide c.in_ok-other.other c.if-wide-other.wide
            c.loop-first-test.true c.first-item.is c.loop-first.invariant.width c.in_ok-other.ensures.width (omega (arith, t, e)) (omega (arith, t, e)) (inr e);
        near = omega (arith, n, e);
      }
  | else-wide-other w ↦
      let t = w.if-wide-other.false in
      let e = w.wide-is in
      let n = c.loop-first.invariant.near in
      record {
        width = next_first c.args.around c.args.cells c.args.k c.args.all.now c.args.all.now c.loop-first.first-index c.first-item.result c.loop-first.wide c.in_ok-other.other c.if-wide-other.wide
            c.loop-first-test.true c.first-item.is c.loop-first.invariant.width c.in_ok-other.ensures.width (omega (arith, t, e)) (omega (arith, t, e)) (inl e);
        near = omega (arith, n, e);
      }
]
