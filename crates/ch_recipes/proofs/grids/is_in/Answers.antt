use Rattle.std.proofs.Common.{arith}
use Rattle.ch_grid.proofs.Sizes.{within_facts}
use Rattle.ch_recipes.proofs.GridPoints.{point_from}
use Rattle.ch_recipes.proofs.grids.is_in.Goals as goal

pub overflow_cast-k : goal.overflow_cast-k
overflow_cast-k c =
    let few = (within_facts c.args.grid.now.params c.args.grid.now.within).few in omega (arith, few)

pub returns : goal.returns
returns c =
    λ yes. point_from c.args.grid.now.params c.args.point.now (omega arith) (λ j l. c.loop-k.invariant j (omega (arith, l, c.loop-k-test.false)))
