use Rattle.std.proofs.Common.{◌≡◌, take}
use Rattle.ch_unroll.specs.Turns.{turn_forms}
use Rattle.ch_unroll.proofs.turn.turn_forms.Given as goal

abbrev pub invariant-loop-k : goal.invariant-loop-k
invariant-loop-k l = l.forms ≡ take l.k (turn_forms l.levels l.level l.amount l.remainder)
