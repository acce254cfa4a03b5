use Rattle.std.proofs.Common.{arith}
use Rattle.std.proofs.lemmas.Int.{ints}
use Rattle.ch_permute.proofs.Steps.{more_levels, not_permutation}
use Rattle.ch_permute.proofs.ordering.is_permutation.Goals as goal

pub returns-then-not-contains : goal.returns-then-not-contains
returns-then-not-contains c = not_permutation c.args.order.now c.loop-k.k _ c.loop-k-test.true (omega (arith, ints)) c.if-not-contains.ensures

pub loop-k-preserved : goal.loop-k-preserved
loop-k-preserved c = more_levels c.args.order.now c.loop-k.k _ (omega (arith, ints)) c.if-not-contains.ensures c.loop-k.invariant
