use Rattle.ch_sessions.specs.Desks.{TableFits}
use Rattle.ch_sessions.proofs.on_book.transcript.Given as goal

abbrev pub invariant-loop-line : goal.invariant-loop-line
invariant-loop-line g l = TableFits l.table
