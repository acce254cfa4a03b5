use Rattle.std.proofs.Common.{arith}
use Rattle.ch_space.proofs.Builds.{hidden_few}
use Rattle.ch_space.proofs.rows.hidden_in.Goals as goal

pub overflow_add-hidden : goal.overflow_add-hidden
overflow_add-hidden c =
    let few = hidden_few c.args.around.now c.loop-part.part-index c.loop-part.hidden c.hidden_of-hidden.result c.part-item.result c.hidden_of-hidden.ensures c.loop-part.invariant c.requires.few in
    omega arith
