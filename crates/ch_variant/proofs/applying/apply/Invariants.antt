use Rattle.ch_variant.proofs.Turns.{Holds}
use Rattle.ch_variant.proofs.applying.apply.Given as goal

abbrev pub invariant-loop-k : goal.invariant-loop-k
invariant-loop-k l = Holds l.nest l.values l.recipe.commands l.k l.sums l.space
