use Rattle.ch_depends.specs.Sought.{Lists, MetBefore}
use Rattle.ch_depends.proofs.levels.all_levels.Given as goal

abbrev pub invariant-loop-from : goal.invariant-loop-from
invariant-loop-from l = Lists (MetBefore l.sides l.from 0 0) l.levels
