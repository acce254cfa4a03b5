use Rattle.std.proofs.Common.{take}
use Rattle.ch_moved.specs.Changed.{AreConditions}
use Rattle.ch_moved.proofs.bounds.conditions.Given as goal

abbrev pub invariant-loop-k : goal.invariant-loop-k
invariant-loop-k l = AreConditions l.boxes (take l.k l.forms) (take l.k l.ranges) l.extra l.rows
