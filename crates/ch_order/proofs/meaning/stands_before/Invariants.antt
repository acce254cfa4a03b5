use Rattle.std.proofs.Common.{◌≡◌, length}
use Rattle.ch_order.specs.Legal.{steps}
use Rattle.ch_order.specs.Walk.{rest}
use Rattle.ch_timed.specs.Order.{is_before}
use Rattle.ch_timed.specs.Timed.{same_step, step}
use Rattle.ch_order.proofs.meaning.stands_before.Given as goal

abbrev pub invariant-loop-at : goal.invariant-loop-at
invariant-loop-at g l = is_before same_step (step l.b) (step l.a) (steps (rest l.at (g.T.Timed.list l.list))) ≡ is_before same_step (step l.b) (step l.a) (steps (g.T.Timed.list l.list))

abbrev pub decreases-loop-at : goal.decreases-loop-at
decreases-loop-at g l = length (rest l.at (g.T.Timed.list l.list))
