use Rattle.std.proofs.Common.{◌≡◌, ◌++◌, take}
use Rattle.ch_meeting.proofs.layout.push_ranges.Given as goal

abbrev pub invariant-loop-range : goal.invariant-loop-range
invariant-loop-range l = l.boxes ≡ l.initial.boxes ++ take l.range-index l.more
