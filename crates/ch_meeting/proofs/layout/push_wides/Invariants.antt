use Rattle.std.proofs.Common.{◌≡◌, ◌++◌}
use Rattle.ch_meeting.specs.Placed.{wides}
use Rattle.ch_meeting.proofs.layout.push_wides.Given as goal

abbrev pub invariant-loop-k : goal.invariant-loop-k
invariant-loop-k l = l.boxes ≡ l.initial.boxes ++ wides l._k
