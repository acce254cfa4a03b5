use Rattle.std.proofs.Common.{length}
use Rattle.ch_sessions.specs.Desks.{SeatsAre}
use Rattle.ch_sessions.proofs.on_book.Table.close.Given as goal

abbrev pub invariant-loop-desk : goal.invariant-loop-desk
invariant-loop-desk l = SeatsAre l.book l.rest l.desks.items

abbrev pub decreases-loop-desk : goal.decreases-loop-desk
decreases-loop-desk l = length l.desks.items
