use Rattle.ch_space.proofs.Builds.{units_next}
use Rattle.ch_space.proofs.rows.units.Goals as goal

pub loop-k-preserved : goal.loop-k-preserved
loop-k-preserved c = units_next c.args.variables c.loop-k.k c.loop-k.forms _ _ c.loop-k-test.true c.in_ok-unit.ensures c.loop-k.invariant c.in_ok-push.ensures.ok
