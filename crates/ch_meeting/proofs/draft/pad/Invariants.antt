use Rattle.std.proofs.Common.{◌≡◌, ◌≤◌, length}
use Rattle.ch_space.specs.Built.{padded}
use Rattle.ch_meeting.proofs.draft.pad.Given as goal

abbrev pub invariant-loop-k : goal.invariant-loop-k
invariant-loop-k l = (l.coefs ≡ padded l._k l.initial.coefs) × (length l.initial.coefs ≤ l._k) × (l._k ≤ l.count)
