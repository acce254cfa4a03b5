use Rattle.std.proofs.Common.{◌≡◌, take, ◌∷◌}
use Rattle.ch_rank.proofs.rows.led_by.Given as goal

abbrev pub invariant-loop-c : goal.invariant-loop-c
invariant-loop-c l = l.next ≡ l.fn.top ∷ take l.c-index l.row
