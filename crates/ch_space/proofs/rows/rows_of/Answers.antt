use Rattle.std.proofs.Common.{arith}
use Rattle.ch_space.proofs.Builds.{short_at, steps_few, steps_here}
use Rattle.ch_space.proofs.rows.rows_of.Goals as goal

pub push_rows-requires-clause-around : goal.push_rows-requires-clause-around
push_rows-requires-clause-around c =
    short_at c.args.around.now c.loop-part.at c.loop-part.part-index c.part-item.result c.part-item.result c.requires.fit
    (steps_here c.args.around.now c.loop-part.part-index c.loop-part.at c.loop-part.invariant.at) c.loop-part-test.true c.part-item.is

pub push_rows-requires-clause-few : goal.push_rows-requires-clause-few
push_rows-requires-clause-few c =
    let a = c.requires.all in
    let f = c.requires.few in
    let s = steps_few c.args.around.now in
    omega arith
