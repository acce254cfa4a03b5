use Rattle.std.proofs.Common.{map, take}
use Rattle.ch_depends.specs.Sought.{IsBest, ReversesBy, SomeOf}
use Rattle.ch_depends.proofs.candidates.least_with_write.Given as goal

abbrev pub invariant-loop-access : goal.invariant-loop-access
invariant-loop-access l = IsBest (SomeOf (take l.access-index (map (λ a. a.now) l.reads)) (λ a. ReversesBy l.pieces a l.pieces.second.now.body.write)) l.best
