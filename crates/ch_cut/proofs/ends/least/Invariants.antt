use Rattle.std.proofs.Common.{◌^◌, take}
use Rattle.ch_affine.specs.Affine.{IsAtMost}
use Rattle.ch_cut.specs.Ends.{IsBelowAll, IsReached}
use Rattle.ch_space.specs.Keeps.{places_of}
use Rattle.ch_cut.proofs.ends.least.Given as goal

abbrev pub invariant-loop-other : goal.invariant-loop-other
invariant-loop-other l = record {
  reached : IsReached l.pieces (places_of l.piece) l.level l.factor l.least;
  below : IsBelowAll (take l.other-index l.pieces) (places_of l.piece) l.level l.factor l.least;
  near : IsAtMost (2 ^ 54) l.least;
}
