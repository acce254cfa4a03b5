use Rattle.std.proofs.Common.{take}
use Rattle.ch_moved.specs.Changed.{StandOver}
use Rattle.ch_moved.proofs.ties.push_over.Given as goal

abbrev pub invariant-loop-row : goal.invariant-loop-row
invariant-loop-row l = StandOver l.initial.rows l.variables l.old.vars l.forms (take l.row-index l.old.rows) l.rows
