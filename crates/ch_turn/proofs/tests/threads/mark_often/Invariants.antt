use Rattle.std.proofs.Common.{◌≡◌, ◌+◌}
use Rattle.ch_turn.specs.Seats.{IsIdle, own_number, turns_left}
use Rattle.ch_turn.proofs.tests.threads.mark_often.Given as goal

abbrev pub invariant-loop-count : goal.invariant-loop-count
invariant-loop-count g l = IsIdle l.turn (own_number l.initial.seat) l.seat × (turns_left l.seat + l.count ≡ turns_left l.initial.seat)
