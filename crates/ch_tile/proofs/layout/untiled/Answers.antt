use Rattle.std.proofs.Common.{arith}
use Rattle.ch_tile.proofs.Steps.{all_untiled, next_around, next_within}
use Rattle.ch_tile.proofs.layout.untiled.Goals as goal

pub loop-around-preserved : goal.loop-around-preserved
loop-around-preserved c =
    next_around c.args.levels c.args.outer c.loop-around.around c.loop-around.forms _ _ c.requires.outer c.loop-around-test.true c.in_ok-unit.ensures c.loop-around.invariant c.in_ok-push.ensures.ok

pub loop-within-preserved : goal.loop-within-preserved
loop-within-preserved c =
    next_within c.args.levels c.args.outer c.loop-within.within c.loop-within.forms _ _ (omega arith) c.loop-within-test.true c.in_ok-unit-2.ensures c.loop-within.invariant c.in_ok-push-2.ensures.ok

pub returns : goal.returns
returns c = all_untiled c.args.levels c.args.outer c.loop-within.within c.loop-within.forms c.requires.outer c.loop-within-test.false c.loop-within.invariant
