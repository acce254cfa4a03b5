use Rattle.ch_meeting.specs.Asked.{MeetsByAt}
use Rattle.ch_meeting.proofs.Levels.{none_more, one_found}
use Rattle.ch_meeting.proofs.meeting.meets_among.Goals as goal

pub returns-then-branch : goal.returns-then-branch
returns-then-branch c =
    one_found (MeetsByAt c.args.level c.args.first.now c.args.second.now c.args.accesses.now.first.now c.args.accesses.now.second.now) c.args.orders.now c.loop-order.order-index _ c.in_ok-meets_by_at.field-0 c.loop-order-test.true
    c.in_ok-meets_by_at.ensures c.if-branch.true

pub loop-order-preserved : goal.loop-order-preserved
loop-order-preserved c =
    none_more (MeetsByAt c.args.level c.args.first.now c.args.second.now c.args.accesses.now.first.now c.args.accesses.now.second.now) c.args.orders.now c.loop-order.order-index _ c.in_ok-meets_by_at.field-0 c.loop-order-test.true
    c.loop-order.invariant c.in_ok-meets_by_at.ensures c.if-branch.false
