use Rattle.std.proofs.Common.{◌≡◌, ◌++◌, drop, map}
use Rattle.ch_nestprint.specs.Conditions.{near}
use Rattle.ch_nestprint.proofs.conditions.each_near.Given as goal

abbrev pub invariant-loop-number : goal.invariant-loop-number
invariant-loop-number l = l.all ++ map near (drop l.number-index l.numbers) ≡ map near l.numbers
