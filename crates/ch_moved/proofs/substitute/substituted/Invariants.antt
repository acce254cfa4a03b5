use Rattle.std.proofs.Common.{◌≡◌, map, take}
use Rattle.ch_moved.specs.Substituted.{substituted}
use Rattle.ch_moved.proofs.substitute.substituted.Given as goal

abbrev pub invariant-loop-row : goal.invariant-loop-row
invariant-loop-row l = l.new ≡ map (substituted l.variables l.forms) (take l.row-index l.rows)
