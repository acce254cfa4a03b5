use Rattle.std.proofs.Common.{◌≡◌, map, take}
use Rattle.ch_space.specs.Negated.{negated_form}
use Rattle.ch_space.proofs.extremes.negated_system.Given as goal

abbrev pub invariant-loop-row : goal.invariant-loop-row
invariant-loop-row l = l.rows ≡ map negated_form (take l.row-index l.system-inside.rows)
