use Rattle.std.proofs.Common.{take}
use Rattle.ch_depends.specs.Sought.{IsBest, Conflicts, partners_of, SomeOf}
use Rattle.ch_depends.proofs.candidates.least_of_sides.Given as goal

abbrev pub invariant-loop-r : goal.invariant-loop-r
invariant-loop-r l = IsBest (SomeOf (take l.r-index (partners_of l.from)) (λ u. SomeOf (partners_of l.to) (Conflicts l.from.piece.now l.to.piece.now u))) l.best
