use Rattle.std.proofs.Common.{◌≡◌, length}
use Rattle.ch_copied.specs.Plans.{Plan}
use Rattle.ch_datacopy.specs.Works.{AddsMoved, IsWork}
use Rattle.ch_datacopy.proofs.candidates.push_moves.Given as goal

abbrev pub invariant-loop-cells : goal.invariant-loop-cells
invariant-loop-cells l = record {
  count : l.k ≡ length l.yielded;
  moved : (p : Plan) → IsWork l.work l.ours l.extents p → AddsMoved p l.yielded l.initial.candidates l.candidates;
}
