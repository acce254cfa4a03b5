use Rattle.std.proofs.Common.{◌≡◌, ◌++◌, take}
use Rattle.std.specs.Prelude.{codes}
use Rattle.std.specs.List.{flat_map}
use Rattle.ch_print.specs.Lists.{behind}
use Rattle.ch_scriptprint.proofs.recipe.put_more_names.Given as goal

abbrev pub invariant-loop-name : goal.invariant-loop-name
invariant-loop-name l = l.out ≡ l.initial.out ++ flat_map (behind (codes ", ") (λ n. n)) (take l.name-index l.names)
