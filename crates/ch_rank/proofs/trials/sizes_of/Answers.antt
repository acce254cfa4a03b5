use Rattle.std.proofs.Common.{arith, ◌∙◌}
use Rattle.ch_rank.proofs.Starting.{sizes_more}
use Rattle.ch_rank.proofs.trials.sizes_of.Goals as goal

pub loop-k-preserved : goal.loop-k-preserved
loop-k-preserved c = c.in_ok-push.ensures.items ∙ sizes_more c.args.grid.now.params c.loop-k.k c.size_of.result c.loop-k.sizes.items (omega (arith, c.loop-k-test.true, c.len-k-end.ensures)) c.size_of.ensures.value c.loop-k.invariant
