use Rattle.std.proofs.Common.{arith}
use Rattle.ch_rank.proofs.Halving.{halving_start, halving_next}
use Rattle.ch_rank.proofs.bound.halvings.Goals as goal

pub loop-c-init : goal.loop-c-init
loop-c-init c = halving_start c.args.n

pub loop-c-preserved : goal.loop-c-preserved
loop-c-preserved c = halving_next c.args.n c.loop-c.c c.loop-c.power c.loop-c.invariant (omega arith)
