use Rattle.ch_depends.specs.Sought.{Lists, MetBefore}
use Rattle.ch_depends.proofs.levels.push_from.Given as goal

abbrev pub invariant-loop-to : goal.invariant-loop-to
invariant-loop-to l = Lists (MetBefore l.sides l.from l.to 0) l.levels
