use Rattle.ch_meeting.proofs.Steps.{agree_more, in_order_next}
use Rattle.ch_meeting.proofs.orders.put_in_order.Goals as goal

pub loop-k-preserved : goal.loop-k-preserved
loop-k-preserved c =
    agree_more c.args.draft.now c.loop-k.draft c.zero.new.self c.args.first c.args.second c.loop-k.k c.in_ok-row.row c.in_ok-row.ensures.value c.loop-k.invariant c.in_ok-zero.ensures

pub returns-in_ok-at_least_zero : goal.returns-in_ok-at_least_zero
returns-in_ok-at_least_zero c =
    in_order_next c.args.draft.now c.loop-k.draft c.at_least_zero.new.self c.args.order c.args.first c.args.second c.loop-k.k c.in_ok-row-2.row c.loop-k-test.false c.loop-k.auto.k-end c.if-order.true
    c.in_ok-row-2.ensures.value c.loop-k.invariant c.in_ok-at_least_zero.ensures
