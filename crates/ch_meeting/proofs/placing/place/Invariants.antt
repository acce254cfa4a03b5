use Rattle.ch_meeting.specs.Drafts.{Narrows}
use Rattle.ch_meeting.proofs.Steps.{HeldUpTo}
use Rattle.ch_meeting.proofs.placing.place.Given as goal

abbrev pub invariant-loop-form : goal.invariant-loop-form
invariant-loop-form l = Narrows l.initial.draft l.draft (HeldUpTo l.form-index l.piece l.levels l.hidden)
