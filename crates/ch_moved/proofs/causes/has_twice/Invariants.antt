use Rattle.std.proofs.Common.{◌≡◌, drop}
use Rattle.ch_moved.specs.Causes.{has_twice}
use Rattle.ch_moved.proofs.causes.has_twice.Given as goal

abbrev pub invariant-loop-k : goal.invariant-loop-k
invariant-loop-k l = has_twice l.numbers ≡ has_twice (drop l.k l.numbers)
