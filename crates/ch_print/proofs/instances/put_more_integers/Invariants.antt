use Rattle.std.proofs.Common.{◌≡◌, ◌++◌, take}
use Rattle.std.specs.Prelude.{codes}
use Rattle.std.specs.List.{flat_map}
use Rattle.ch_print.specs.Lists.{behind}
use Rattle.ch_print.specs.Numbers.{integer_text}
use Rattle.ch_print.proofs.instances.put_more_integers.Given as goal

abbrev pub invariant-loop-number : goal.invariant-loop-number
invariant-loop-number l = l.out ≡ l.initial.out ++ flat_map (behind (codes ",") integer_text) (take l.number-index l.numbers)
