use Rattle.std.proofs.Common.{◌≡◌, ◌++◌, ◌+◌, drop}
use Rattle.ch_space.specs.Built.{rows_of}
use Rattle.ch_space.specs.Statements.{loops, steps}
use Rattle.ch_space.proofs.rows.rows_of.Given as goal

abbrev pub invariant-loop-part : goal.invariant-loop-part
invariant-loop-part l = record {
  rows : l.rows ++ rows_of l.all l.at (drop l.part-index l.around) ≡ rows_of l.all l.levels l.around;
  at : l.at + steps (drop l.part-index l.around) ≡ loops l.around + steps l.around;
}
