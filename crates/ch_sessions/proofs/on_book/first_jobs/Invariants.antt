use Rattle.std.proofs.Common.{[], All}
use Rattle.ch_sessions.specs.Desks.{IsJob}
use Rattle.ch_sessions.proofs.on_book.first_jobs.Given as goal

abbrev pub invariant-loop-trial : goal.invariant-loop-trial
invariant-loop-trial l = All (IsJob l.session.theme []) l.jobs.items
