use Rattle.std.proofs.Common.{◌≡◌, drop}
use Rattle.ch_affine.specs.Rows.{lies_in}
use Rattle.ch_affine.proofs.system.lies_in.Given as goal

abbrev pub invariant-loop-k : goal.invariant-loop-k
invariant-loop-k l = lies_in (drop l.k l.boxes) (drop l.k l.point) ≡ lies_in l.boxes l.point
