use Rattle.ch_space.proofs.Builds.{units_end, units_next}
use Rattle.ch_cut.proofs.forms.all_levels.Goals as goal

pub loop-k-preserved : goal.loop-k-preserved
loop-k-preserved c = units_next c.args.levels c.loop-k.k c.loop-k.forms _ _ c.loop-k-test.true c.in_ok-unit.ensures c.loop-k.invariant c.in_ok-push.ensures.ok

pub returns : goal.returns
returns c = units_end c.args.levels c.loop-k.k c.loop-k.forms c.loop-k-test.false c.loop-k.invariant
