use Rattle.std.proofs.Common.{take}
use Rattle.ch_poly.specs.Goals.{Reaches}
use Rattle.ch_poly.proofs.goal.reach.Given as goal

abbrev pub invariant-loop-row : goal.invariant-loop-row
invariant-loop-row l = Reaches l.bound (take l.row-index l.rows) l.point
