use Rattle.std.proofs.Common.{take}
use Rattle.ch_depends.specs.Sought.{IsBest, Kept, SomeOf}
use Rattle.ch_depends.proofs.candidates.least.Given as goal

abbrev pub invariant-loop-from : goal.invariant-loop-from
invariant-loop-from l = IsBest (SomeOf (take l.from-index l.sides) (λ s. SomeOf l.sides (Kept l.free s))) l.best
