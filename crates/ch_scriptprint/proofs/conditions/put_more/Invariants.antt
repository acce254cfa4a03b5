use Rattle.std.proofs.Common.{◌≡◌, ◌++◌, take}
use Rattle.std.specs.List.{flat_map}
use Rattle.ch_scriptprint.specs.Printed.{next_text}
use Rattle.ch_scriptprint.proofs.conditions.put_more.Given as goal

abbrev pub invariant-loop-term : goal.invariant-loop-term
invariant-loop-term l = l.out ≡ l.initial.out ++ flat_map (next_text l.params) (take l.term-index l.terms)
