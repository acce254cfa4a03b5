use Rattle.std.proofs.Common.{◌≡◌, pos, map, take, true}
use Rattle.std.specs.List.{list_all}
use Rattle.ch_space.specs.Keeps.{places_of}
use Rattle.ch_timed.specs.Vectors.{shares}
use Rattle.ch_unroll.specs.Layouts.{sharing}
use Rattle.ch_unroll.proofs.layout.all_share.Given as goal

abbrev pub invariant-loop-piece : goal.invariant-loop-piece
invariant-loop-piece l =
    list_all (shares l.deeper (map pos l.ours)) (sharing l.level (map pos l.ours) (map places_of (take l.piece-index l.pieces))) ≡ true
