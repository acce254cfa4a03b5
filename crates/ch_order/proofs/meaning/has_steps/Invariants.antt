use Rattle.std.proofs.Common.{length}
use Rattle.ch_order.specs.Legal.{AreAmong}
use Rattle.ch_order.specs.Walk.{rest}
use Rattle.ch_order.proofs.meaning.has_steps.Given as goal

abbrev pub invariant-loop-at : goal.invariant-loop-at
invariant-loop-at g l = AreAmong (rest l.at (g.A.Timed.list l.from)) (g.B.Timed.list l.into) → AreAmong (g.A.Timed.list l.from) (g.B.Timed.list l.into)

abbrev pub decreases-loop-at : goal.decreases-loop-at
decreases-loop-at g l = length (rest l.at (g.A.Timed.list l.from))
