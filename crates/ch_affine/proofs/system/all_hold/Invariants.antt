use Rattle.std.proofs.Common.{◌≡◌, take, true}
use Rattle.ch_affine.specs.Rows.{all_hold}
use Rattle.ch_affine.proofs.system.all_hold.Given as goal

abbrev pub invariant-loop-row : goal.invariant-loop-row
invariant-loop-row l = all_hold (take l.row-index l.rows) l.point ≡ true
