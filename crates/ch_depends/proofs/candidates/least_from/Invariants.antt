use Rattle.std.proofs.Common.{take}
use Rattle.ch_depends.specs.Sought.{IsBest, Kept, SomeOf}
use Rattle.ch_depends.proofs.candidates.least_from.Given as goal

abbrev pub invariant-loop-to : goal.invariant-loop-to
invariant-loop-to l = IsBest (SomeOf (take l.to-index l.sides) (Kept l.free l.from)) l.best
