use Rattle.ch_depends.specs.Sought.{Kept}
use Rattle.ch_depends.proofs.Bests.{best_all, best_more}
use Rattle.ch_depends.proofs.candidates.least_from.Goals as goal

pub loop-to-preserved : goal.loop-to-preserved
loop-to-preserved c =
    best_more (Kept c.args.free.now c.args.from.now) c.args.sides.now c.loop-to.to-index c.to-item.result c.loop-to.best c.in_ok-least_unless_free.field-0 c.lesser-best.result
    c.loop-to-test.true c.to-item.is c.lesser-best.ensures c.loop-to.invariant c.in_ok-least_unless_free.ensures

pub returns : goal.returns
returns c = best_all (Kept c.args.free.now c.args.from.now) c.args.sides.now c.loop-to.to-index c.loop-to.best c.loop-to-test.false c.loop-to.invariant
