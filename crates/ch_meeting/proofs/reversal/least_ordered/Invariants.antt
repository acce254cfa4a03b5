use Rattle.std.proofs.Common.{◌≡◌, take}
use Rattle.ch_meeting.specs.Asked.{IsReversalAmongOf}
use Rattle.ch_meeting.specs.Meeting.{IsLeastPair}
use Rattle.ch_meeting.proofs.reversal.least_ordered.Given as goal

abbrev pub invariant-loop-order : goal.invariant-loop-order
invariant-loop-order l = record {
  least : IsLeastPair l.pieces.first.now.levels (IsReversalAmongOf (take l.order-index l.orders) l.turns l.pieces l.accesses) l.least;
  meeting : l.meeting ≡ l.initial.meeting;
}
