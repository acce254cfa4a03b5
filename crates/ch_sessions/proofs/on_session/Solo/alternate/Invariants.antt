use Rattle.ch_sessions.specs.Plans.{IsAbout}
use Rattle.ch_sessions.proofs.on_session.Solo.alternate.Given as goal

abbrev pub invariant-loop-call : goal.invariant-loop-call
invariant-loop-call l = IsAbout l.self.course l.self.session
