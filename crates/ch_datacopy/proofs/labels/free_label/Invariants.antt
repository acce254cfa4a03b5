use Rattle.std.proofs.Common.{◌≡◌, ◌≤◌, ◌^◌, drop}
use Rattle.ch_datacopy.specs.Labels.{next_free}
use Rattle.ch_datacopy.proofs.labels.free_label.Given as goal

abbrev pub invariant-loop-piece : goal.invariant-loop-piece
invariant-loop-piece l = record {
  value : next_free l.free (drop l.piece-index l.pieces) ≡ next_free 0 l.pieces;
  near : l.free ≤ 2 ^ 13;
}
