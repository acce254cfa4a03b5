use Rattle.std.proofs.Common.{take}
use Rattle.ch_eval.specs.Made.{AreLimits}
use Rattle.ch_eval.proofs.make.limits_of.Given as goal

abbrev pub invariant-loop-bound : goal.invariant-loop-bound
invariant-loop-bound l = AreLimits (take l.bound-index l.bounds) l.limits
