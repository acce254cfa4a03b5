use Rattle.std.proofs.Common.{◌≡◌, ◌++◌, map, take}
use Rattle.ch_meeting.specs.Placed.{turn_range}
use Rattle.ch_meeting.proofs.layout.push_turns.Given as goal

abbrev pub invariant-loop-sub : goal.invariant-loop-sub
invariant-loop-sub l = l.boxes ≡ l.initial.boxes ++ map (λ s. turn_range s.modulus) (take l.sub-index l.subs)
