use Rattle.ch_depends.proofs.Listing.{met_all}
use Rattle.ch_depends.proofs.levels.all_levels.Goals as goal

pub returns : goal.returns
returns c = met_all c.args.sides.now c.loop-from.from c.loop-from.levels c.loop-from-test.false c.loop-from.invariant
