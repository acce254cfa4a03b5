use Rattle.std.proofs.Common.{◌≡◌, drop}
use Rattle.ch_timed.specs.Conflict.{clash}
use Rattle.ch_depends.proofs.cells.first_clash.Given as goal

abbrev pub invariant-loop-cell : goal.invariant-loop-cell
invariant-loop-cell l = clash l.ours l.theirs (drop l.cell-index l.ours) ≡ clash l.ours l.theirs l.ours
