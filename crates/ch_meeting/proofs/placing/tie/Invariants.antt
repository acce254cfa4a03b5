use Rattle.ch_meeting.specs.Drafts.{Narrows}
use Rattle.ch_meeting.proofs.Steps.{TiedUpTo}
use Rattle.ch_meeting.proofs.placing.tie.Given as goal

abbrev pub invariant-loop-k : goal.invariant-loop-k
invariant-loop-k l = Narrows l.initial.draft l.draft (TiedUpTo l.k l.piece l.levels l.iters)
