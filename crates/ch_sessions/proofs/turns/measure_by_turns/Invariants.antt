use Rattle.ch_sessions.specs.Desks.{IsStill}
use Rattle.ch_sessions.proofs.turns.measure_by_turns.Given as goal

abbrev pub invariant-loop-call : goal.invariant-loop-call
invariant-loop-call g l = IsStill l.book l.initial.seat l.seat
