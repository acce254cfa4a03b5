use Rattle.std.proofs.Common.{◌≡◌, ◌++◌, take}
use Rattle.std.specs.Prelude.{codes}
use Rattle.std.specs.List.{flat_map}
use Rattle.ch_print.specs.Lists.{behind}
use Rattle.ch_scriptprint.specs.Printed.{arg_text}
use Rattle.ch_scriptprint.proofs.arguments.put_more.Given as goal

abbrev pub invariant-loop-arg : goal.invariant-loop-arg
invariant-loop-arg l = l.out ≡ l.initial.out ++ flat_map (behind (codes ", ") (arg_text l.params)) (take l.arg-index l.args)
