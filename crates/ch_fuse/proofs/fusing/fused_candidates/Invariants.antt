use Rattle.std.proofs.Common.{pos, take}
use Rattle.ch_fuse.specs.Fused.{fused_places, in_groups}
use Rattle.ch_fuse.specs.Replaced.{ArePlaced, replaced}
use Rattle.ch_fuse.proofs.fusing.fused_candidates.Given as goal

abbrev pub invariant-loop-k : goal.invariant-loop-k
invariant-loop-k l = ArePlaced (replaced (in_groups l.space.list l.numbers (pos l.depth)) (fused_places l.depth (pos l.width) (pos l.first))) (take l.k l.pieces) l.candidates
