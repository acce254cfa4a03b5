use Rattle.ch_depends.specs.Sought.{Kept, SomeOf}
use Rattle.ch_depends.proofs.Bests.{best_all, best_more}
use Rattle.ch_depends.proofs.candidates.least.Goals as goal

pub loop-from-preserved : goal.loop-from-preserved
loop-from-preserved c =
    best_more (λ s. SomeOf c.args.sides.now (Kept c.args.free.now s)) c.args.sides.now c.loop-from.from-index c.from-item.result c.loop-from.best c.in_ok-least_from.field-0 c.lesser-best.result
    c.loop-from-test.true c.from-item.is c.lesser-best.ensures c.loop-from.invariant c.in_ok-least_from.ensures

pub returns : goal.returns
returns c = best_all (λ s. SomeOf c.args.sides.now (Kept c.args.free.now s)) c.args.sides.now c.loop-from.from-index c.loop-from.best c.loop-from-test.false c.loop-from.invariant
