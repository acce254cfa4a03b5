use Rattle.std.proofs.Common.{map, take}
use Rattle.ch_meeting.specs.Meeting.{MeetsAt}
use Rattle.ch_nest.specs.declared.nest.Access.{Access}
use Rattle.ch_timed.specs.Members.{In}
use Rattle.ch_depends.proofs.levels.read_meets.Given as goal

abbrev pub invariant-loop-access : goal.invariant-loop-access
invariant-loop-access l = (a : Access) → In a (take l.access-index (map (λ a. a.now) l.reads)) → MeetsAt l.p l.q a l.q.body.write l.level → ⊥
