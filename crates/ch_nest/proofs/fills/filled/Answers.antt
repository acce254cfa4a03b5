use Rattle.ch_nest.proofs.StartCells.{filled_size}
use Rattle.ch_nest.proofs.fills.filled.Goals as goal

pub returns-clause-size : goal.returns-clause-size
returns-clause-size c = filled_size c.args.arrays.now c.args.fills.now c.loop-k.k c.loop-k.cells c.requires.fills c.loop-k-test.false c.loop-k.invariant
