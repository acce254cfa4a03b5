use Rattle.ch_sessions.specs.Desks.{IsStill}
use Rattle.ch_sessions.proofs.turns.has_news.Given as goal

abbrev pub invariant-loop-look : goal.invariant-loop-look
invariant-loop-look g l = IsStill l.book l.initial.seat l.seat
