use Rattle.ch_sessions.specs.Plans.{IsAbout}
use Rattle.ch_sessions.proofs.on_session.transcript.Given as goal

abbrev pub invariant-loop-line : goal.invariant-loop-line
invariant-loop-line l = IsAbout l.solo.course l.solo.session
