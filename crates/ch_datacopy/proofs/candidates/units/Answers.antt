use Rattle.ch_datacopy.proofs.Steps.{units_end, units_more}
use Rattle.ch_datacopy.proofs.candidates.units.Goals as goal

pub loop-k-preserved : goal.loop-k-preserved
loop-k-preserved c = units_more c.loop-k.k c.args.count c.loop-k.forms c.push.new.self _ c.in_ok-unit.field-0 c.loop-k-test.true c.in_ok-unit.ensures c.loop-k.invariant c.in_ok-push.ensures.ok

pub returns : goal.returns
returns c = units_end c.loop-k.k c.args.count c.loop-k.forms _ c.loop-k-test.false c.loop-k.invariant
