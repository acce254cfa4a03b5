use Rattle.std.proofs.Common.{◌≡◌, ◌++◌, drop, map}
use Rattle.ch_nestprint.specs.Conditions.{moved}
use Rattle.ch_nestprint.proofs.conditions.each_moved.Given as goal

abbrev pub invariant-loop-number : goal.invariant-loop-number
invariant-loop-number l = l.all ++ map moved (drop l.number-index l.numbers) ≡ map moved l.numbers
