use Rattle.ch_meeting.specs.Drafts.{Narrows}
use Rattle.ch_meeting.proofs.Steps.{AgreeUpTo}
use Rattle.ch_meeting.proofs.orders.put_in_order.Given as goal

abbrev pub invariant-loop-k : goal.invariant-loop-k
invariant-loop-k l = Narrows l.initial.draft l.draft (AgreeUpTo l.k l.first l.second)
