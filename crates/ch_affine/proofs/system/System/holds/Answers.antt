use Rattle.std.proofs.Common.{sym}
use Rattle.ch_affine.proofs.Boxes.{lies_small}
use Rattle.ch_affine.proofs.system.System.holds.Goals as goal

pub all_hold-requires-clause-small : goal.all_hold-requires-clause-small
all_hold-requires-clause-small c = lies_small _ _ c.self.invariant.each (rw c.as_slice-boxes.ensures at (sym c.if-lies_in.ensures))
