use Rattle.std.proofs.Common.{length}
use Rattle.ch_order.specs.Legal.{steps}
use Rattle.ch_order.specs.Walk.{rest}
use Rattle.ch_timed.specs.Members.{In}
use Rattle.ch_timed.specs.Timed.{step}
use Rattle.ch_order.proofs.meaning.has_step.Given as goal

abbrev pub invariant-loop-at : goal.invariant-loop-at
invariant-loop-at g l = In (step l.element) (steps (g.T.Timed.list l.list)) → In (step l.element) (steps (rest l.at (g.T.Timed.list l.list)))

abbrev pub decreases-loop-at : goal.decreases-loop-at
decreases-loop-at g l = length (rest l.at (g.T.Timed.list l.list))
