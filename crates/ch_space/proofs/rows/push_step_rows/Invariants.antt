use Rattle.std.proofs.Common.{◌≡◌, ◌++◌, drop}
use Rattle.ch_space.specs.Built.{step_rows}
use Rattle.ch_space.proofs.rows.push_step_rows.Given as goal

abbrev pub invariant-loop-low : goal.invariant-loop-low
invariant-loop-low l = l.rows ++ step_rows l.loops l.at l.level.step (drop l.low-index l.level.lows) ≡ l.initial.rows ++ step_rows l.loops l.at l.level.step l.level.lows
