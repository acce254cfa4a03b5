use Rattle.std.proofs.Common.{◌≡◌, ◌+◌, drop}
use Rattle.ch_space.specs.Statements.{steps}
use Rattle.ch_space.proofs.rows.hidden_in.Given as goal

abbrev pub invariant-loop-part : goal.invariant-loop-part
invariant-loop-part l = l.hidden + steps (drop l.part-index l.around) ≡ steps l.around
