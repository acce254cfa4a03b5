use Rattle.std.proofs.Common.{take}
use Rattle.ch_meeting.specs.Asked.{MeetsByAt}
use Rattle.ch_meeting.specs.Cases.{OneOf}
use Rattle.ch_meeting.proofs.meeting.meets_among.Given as goal

abbrev pub invariant-loop-order : goal.invariant-loop-order
invariant-loop-order l = OneOf (MeetsByAt l.level l.first l.second l.accesses.first.now l.accesses.second.now) (take l.order-index l.orders) → ⊥
