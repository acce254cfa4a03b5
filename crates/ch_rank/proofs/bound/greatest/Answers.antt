use Rattle.std.proofs.Common.{arith}
use Rattle.ch_rank.proofs.Halving.{greatest_start}
use Rattle.ch_rank.proofs.bound.greatest.Goals as goal

pub loop-size-init : goal.loop-size-init
loop-size-init c = (omega arith, greatest_start c.args.sizes.now)
