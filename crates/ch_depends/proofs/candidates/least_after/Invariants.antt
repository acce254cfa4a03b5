use Rattle.std.proofs.Common.{take}
use Rattle.ch_depends.specs.Sought.{IsBest, Conflicts, partners_of, SomeOf}
use Rattle.ch_depends.proofs.candidates.least_after.Given as goal

abbrev pub invariant-loop-s : goal.invariant-loop-s
invariant-loop-s l = IsBest (SomeOf (take l.s-index (partners_of l.to)) (Conflicts l.from.piece.now l.to.piece.now l.r)) l.best
