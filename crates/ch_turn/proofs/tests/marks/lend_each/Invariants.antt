use Rattle.std.proofs.Common.{◌≡◌, ◌+◌}
use Rattle.ch_turn.specs.Seats.{HasAllNumbers, IsIdle, turns_left}
use Rattle.ch_turn.proofs.tests.marks.lend_each.Given as goal

abbrev pub invariant-loop-number : goal.invariant-loop-number
invariant-loop-number g l = IsIdle l.turn 65535 l.seat × HasAllNumbers l.seat × (turns_left l.seat + l.number ≡ turns_left l.initial.seat)
