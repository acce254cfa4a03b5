use Rattle.std.proofs.Common.{arith}
use Rattle.ch_space.proofs.Builds.{loops_few}
use Rattle.ch_space.proofs.level.loops_in.Goals as goal

pub overflow_add-loops : goal.overflow_add-loops
overflow_add-loops c =
    let few = loops_few c.args.around.now c.loop-part.part-index c.loop-part.loops c.loop-part.invariant c.requires.few in
    omega arith
