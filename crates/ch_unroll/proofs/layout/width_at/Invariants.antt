use Rattle.std.proofs.Common.{◌≡◌, ◌+◌, ◌<◌, ◌^◌, pos, map, take}
use Rattle.ch_space.specs.Keeps.{places_of}
use Rattle.ch_unroll.specs.Layouts.{sharing, width_at}
use Rattle.ch_unroll.proofs.layout.width_at.Given as goal

abbrev pub invariant-loop-piece : goal.invariant-loop-piece
invariant-loop-piece l = record {
  is : pos (l.greatest + 1) ≡ width_at l.level (sharing l.level (map pos l.ours) (map places_of (take l.piece-index l.pieces)));
  near : l.greatest < 2 ^ 32;
}
