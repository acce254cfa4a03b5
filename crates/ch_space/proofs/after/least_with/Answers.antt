use Rattle.ch_space.proofs.Narrowed.{least_fixed_ok}
use Rattle.ch_space.proofs.after.least_with.Goals as goal

pub returns : goal.returns
returns c = least_fixed_ok c.args.piece.now c.args.fixed.now c.as_slice.result.now c.in_ok-front.front c.least_in.result c.as_slice.ensures c.in_ok-front.ensures c.least_in.ensures
