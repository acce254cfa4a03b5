use Rattle.std.proofs.Common.{◌-◌, ap, ◌∙◌, length, arith}
use Rattle.ch_pieces.proofs.Ranked.{ranked_before, ranked_first, ranked_here, ranked_long, ranked_more, ranked_same, ranked_small}
use Rattle.ch_pieces.proofs.closing.closed_places.Goals as goal
use Rattle.ch_pieces.proofs.closing.closed_places.Goals.{then-k-eq0+in_ok-next, else-k-eq0+in_ok-next-2}

pub bounds-as_slice-k : goal.bounds-as_slice-k
bounds-as_slice-k c =
    let lt = c.loop-k-test.true in
    let n = ranked_long c.args.parts.now c.loop-k.k c.loop-k.closed c.loop-k.invariant (omega arith) in
    let m = ap length c.as_slice.ensures in
    let z = c.if-k-eq0.false in
    omega arith

pub numbers_after-requires-else-k-eq0-clause-same : goal.numbers_after-requires-else-k-eq0-clause-same
numbers_after-requires-else-k-eq0-clause-same c =
    let z = c.if-k-eq0.false in
    let lt = c.loop-k-test.true in
    ranked_same c.args.parts.now (c.loop-k.k - 1) c.index-parts-k-else-k-eq0.result c.as_slice-else-k-eq0-2.result.now c.as_slice-else-k-eq0.result.now (omega arith)
    (ranked_before c.args.parts.now c.loop-k.k c.loop-k.closed c.as_slice.result.now c.index-as_slice-k.result c.as_slice-else-k-eq0-2.result.now c.index-parts-k-else-k-eq0.result
    c.loop-k.invariant c.as_slice.ensures c.index-as_slice-k.is c.as_slice-else-k-eq0-2.ensures (omega arith) lt)
    c.as_slice-else-k-eq0.ensures

pub numbers_after-requires-else-k-eq0-clause-small : goal.numbers_after-requires-else-k-eq0-clause-small
numbers_after-requires-else-k-eq0-clause-small c =
    let z = c.if-k-eq0.false in
    ranked_small c.args.parts.now (c.loop-k.k - 1) c.index-parts-k-else-k-eq0.result c.as_slice-else-k-eq0-2.result.now c.requires.few
    (ranked_before c.args.parts.now c.loop-k.k c.loop-k.closed c.as_slice.result.now c.index-as_slice-k.result c.as_slice-else-k-eq0-2.result.now c.index-parts-k-else-k-eq0.result
    c.loop-k.invariant c.as_slice.ensures c.index-as_slice-k.is c.as_slice-else-k-eq0-2.ensures (omega arith) c.loop-k-test.true)

pub loop-k-preserved : goal.loop-k-preserved
loop-k-preserved c =
    ranked_more c.args.parts.now c.loop-k.k c.loop-k.closed c.push.new.self c.if-k-eq0.next c.index-parts-k.result c.loop-k.invariant c.loop-k-test.true
    (elim c.if-k-eq0.branch [
      | then-k-eq0+in_ok-next w ↦
          ranked_first c.args.parts.now c.loop-k.k c.index-parts-k.result c.as_slice-places.result.now c.if-k-eq0.next c.requires.apart w.if-k-eq0.true c.loop-k-test.true c.as_slice-places.ensures
          (w.next-is ∙ w.in_ok-next.ensures)
      | else-k-eq0+in_ok-next-2 w ↦
          let z = w.if-k-eq0.false in
          ranked_here c.args.parts.now c.loop-k.k w.index-parts-k-else-k-eq0.result c.index-parts-k.result w.as_slice-else-k-eq0.result.now w.as_slice-else-k-eq0-2.result.now
          c.as_slice-places.result.now c.if-k-eq0.next c.requires.apart (omega arith) c.loop-k-test.true
          (ranked_before c.args.parts.now c.loop-k.k c.loop-k.closed w.as_slice.result.now w.index-as_slice-k.result w.as_slice-else-k-eq0-2.result.now w.index-parts-k-else-k-eq0.result
          c.loop-k.invariant w.as_slice.ensures w.index-as_slice-k.is w.as_slice-else-k-eq0-2.ensures (omega arith) c.loop-k-test.true)
          w.as_slice-else-k-eq0.ensures c.as_slice-places.ensures (w.next-is ∙ w.in_ok-next-2.ensures)
    ])
    c.in_ok-push.ensures.ok
