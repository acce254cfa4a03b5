use Rattle.std.proofs.Common.{◌≡◌, ◌≤◌, ◌++◌, drop, length}
use Rattle.ch_space.specs.Renumbered.{next_places}
use Rattle.ch_pieces.proofs.closing.numbers_after.Given as goal

abbrev pub invariant-loop-k : goal.invariant-loop-k
invariant-loop-k l = record {
  short : length l.like ≤ length l.closed;
  numbers : next_places l.before l.closed l.places ≡ l.numbers ++ next_places (drop l.k l.like) (drop l.k l.closed) (drop l.k l.places);
}
