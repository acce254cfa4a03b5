use Rattle.ch_depends.proofs.Listing.{met_from}
use Rattle.ch_depends.proofs.levels.push_from.Goals as goal

pub returns : goal.returns
returns c = met_from c.args.sides.now c.args.from c.loop-to.to c.loop-to.levels c.loop-to-test.false c.loop-to.invariant
