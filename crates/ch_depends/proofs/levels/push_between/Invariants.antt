use Rattle.ch_depends.specs.Sought.{Lists, MetBefore}
use Rattle.ch_depends.proofs.levels.push_between.Given as goal

abbrev pub invariant-loop-level : goal.invariant-loop-level
invariant-loop-level l = Lists (MetBefore l.sides l.from l.to l.level) l.levels
