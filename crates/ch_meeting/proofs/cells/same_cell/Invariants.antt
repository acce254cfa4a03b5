use Rattle.ch_meeting.specs.Drafts.{Narrows}
use Rattle.ch_meeting.specs.Placed.{SameUpTo}
use Rattle.ch_meeting.proofs.cells.same_cell.Given as goal

abbrev pub invariant-loop-k : goal.invariant-loop-k
invariant-loop-k l = Narrows l.initial.draft l.draft (SameUpTo l.k l.accesses.first.now l.accesses.second.now l.sites.here l.sites.there)
