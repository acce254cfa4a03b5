use Rattle.std.proofs.Common.{take}
use Rattle.ch_copied.specs.Plans.{Plan}
use Rattle.ch_datacopy.specs.Works.{AreKept, IsWork}
use Rattle.ch_datacopy.proofs.candidates.all_kept.Given as goal

abbrev pub invariant-loop-k : goal.invariant-loop-k
invariant-loop-k l = (p : Plan) → IsWork l.work l.ours l.extents p → AreKept p (take l.k l.pieces) l.candidates
