use Rattle.ch_rank.proofs.Halving.{Halving}
use Rattle.ch_rank.proofs.bound.halvings.Given as goal

abbrev pub invariant-loop-c : goal.invariant-loop-c
invariant-loop-c l = Halving l.n l.c l.power
