use Rattle.std.proofs.Common.{map, take}
use Rattle.ch_depends.specs.Sought.{IsBest, ReversesBy, SomeOf}
use Rattle.ch_depends.proofs.candidates.least_with_reads.Given as goal

abbrev pub invariant-loop-other : goal.invariant-loop-other
invariant-loop-other l = IsBest (SomeOf (take l.other-index (map (λ a. a.now) l.others)) (ReversesBy l.pieces l.pieces.first.now.body.write)) l.best
