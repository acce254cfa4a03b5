use Rattle.std.proofs.Common.{◌≡◌, ◌≤◌, length}
use Rattle.ch_space.specs.Renumbered.{all_placed}
use Rattle.ch_pieces.proofs.closing.place_all.Given as goal

abbrev pub invariant-loop-places : goal.invariant-loop-places
invariant-loop-places l = record {
  few : length l.closed ≤ length l.pieces;
  left : all_placed l.pieces l.closed ≡ all_placed l.initial.pieces l.initial.closed;
}

abbrev pub decreases-loop-places : goal.decreases-loop-places
decreases-loop-places l = length l.closed
