use Rattle.std.proofs.Common.{◌≡◌, map, take}
use Rattle.ch_variant.specs.Arguments.{number}
use Rattle.ch_variant.proofs.arguments.numbers.Given as goal

abbrev pub invariant-loop-arg : goal.invariant-loop-arg
invariant-loop-arg l = l.list ≡ map (number l.values) (take l.arg-index l.args)
