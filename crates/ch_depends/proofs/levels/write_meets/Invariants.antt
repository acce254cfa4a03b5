use Rattle.std.proofs.Common.{map, take}
use Rattle.ch_meeting.specs.Meeting.{MeetsAt}
use Rattle.ch_nest.specs.declared.nest.Access.{Access}
use Rattle.ch_timed.specs.Members.{In}
use Rattle.ch_depends.proofs.levels.write_meets.Given as goal

abbrev pub invariant-loop-other : goal.invariant-loop-other
invariant-loop-other l = (a : Access) → In a (take l.other-index (map (λ a. a.now) l.others)) → MeetsAt l.p l.q l.p.body.write a l.level → ⊥
