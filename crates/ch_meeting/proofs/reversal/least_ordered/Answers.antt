use Rattle.std.proofs.Common.{◌∙◌, sym, subst}
use Rattle.ch_meeting.specs.Asked.{AsksMeeting, IsTurnedAmongOf}
use Rattle.ch_meeting.specs.Cases.{IsWithin}
use Rattle.ch_meeting.proofs.Meetings.{meeting_none}
use Rattle.ch_meeting.proofs.Reversals.{least_all, least_more, none_met}
use Rattle.ch_space.proofs.EndsOf.{at_all}
use Rattle.ch_meeting.proofs.reversal.least_ordered.Goals as goal

pub is_excluded-requires : goal.is_excluded-requires
is_excluded-requires c = c.requires.asks.draft

pub returns-then-is_excluded : goal.returns-then-is_excluded
returns-then-is_excluded c =
    none_met c.args.pieces.now.first.now c.args.pieces.now.second.now c.args.pieces.now.new_first.now c.args.pieces.now.new_second.now c.args.accesses.now.first.now c.args.accesses.now.second.now c.args.orders.now c.args.turns.now
    (λ o i m. meeting_none o c.args.pieces.now.first.now c.args.pieces.now.second.now c.args.accesses.now.first.now c.args.accesses.now.second.now c.requires.pieces.first c.requires.pieces.second c.requires.accesses.first c.requires.accesses.second c.requires.alike.array c.requires.alike.subscripts
    (at_all (IsWithin c.args.pieces.now.first.now.levels c.args.pieces.now.second.now.levels) c.args.orders.now o c.requires.within i) c.args.meeting.now c.requires.asks (c.is_excluded.ensures.none c.if-is_excluded.true) m)

pub least_met-requires-clause-asks : goal.least_met-requires-clause-asks
least_met-requires-clause-asks c =
    subst (AsksMeeting c.args.pieces.now.first.now c.args.pieces.now.second.now c.args.accesses.now) (sym c.loop-order.invariant.meeting)
    (subst (AsksMeeting c.args.pieces.now.first.now c.args.pieces.now.second.now c.args.accesses.now) (sym c.is_excluded.ensures.draft) c.requires.asks)

pub loop-order-preserved : goal.loop-order-preserved
loop-order-preserved c = record {
  least = least_more c.args.pieces.now.first.now.levels (λ o. IsTurnedAmongOf o c.args.turns.now c.args.pieces.now c.args.accesses.now) c.args.orders.now c.loop-order.order-index _ c.loop-order.least c.in_ok-next.next c.lesser-least.result
      c.loop-order-test.true c.loop-order.invariant.least c.in_ok-next.ensures.least c.lesser-least.ensures;
  meeting = c.in_ok-next.ensures.draft ∙ c.loop-order.invariant.meeting;
}

pub returns : goal.returns
returns c = least_all c.args.pieces.now.first.now.levels (λ o. IsTurnedAmongOf o c.args.turns.now c.args.pieces.now c.args.accesses.now) c.args.orders.now c.loop-order.order-index c.loop-order.least c.loop-order-test.false c.loop-order.invariant.least
