use Rattle.std.proofs.Common.{map}
use Rattle.ch_meeting.specs.Meeting.{HaveCommon}
use Rattle.ch_depends.proofs.Gathered.{Gathers}
use Rattle.ch_depends.proofs.sides.with_common.Given as goal

abbrev pub invariant-loop-other : goal.invariant-loop-other
invariant-loop-other l = Gathers (HaveCommon l.piece) (map (λ r. r.now) l.others) l.other-index (map (λ r. r.now) l.found)
