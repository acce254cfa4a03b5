use Rattle.std.proofs.Common.{◌≡◌, ◌++◌, take}
use Rattle.std.specs.List.{flat_map}
use Rattle.ch_scriptprint.specs.Printed.{require_line}
use Rattle.ch_scriptprint.proofs.recipe.put_requires.Given as goal

abbrev pub invariant-loop-condition : goal.invariant-loop-condition
invariant-loop-condition l = l.out ≡ l.initial.out ++ flat_map (require_line l.params) (take l.condition-index l.conditions)
