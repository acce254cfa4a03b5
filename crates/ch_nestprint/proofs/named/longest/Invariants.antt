use Rattle.std.proofs.Common.{◌≡◌, drop, max}
use Rattle.ch_nestprint.specs.Names.{longest}
use Rattle.ch_nestprint.proofs.named.longest.Given as goal

abbrev pub invariant-loop-array : goal.invariant-loop-array
invariant-loop-array l = max l.most (longest (drop l.array-index l.arrays)) ≡ longest l.arrays
