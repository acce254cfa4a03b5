use Rattle.std.proofs.Common.{map, pos, take}
use Rattle.ch_unroll.specs.Copies.{AllBecome}
use Rattle.ch_unroll.proofs.copies.copies.Given as goal

abbrev pub invariant-loop-k : goal.invariant-loop-k
invariant-loop-k l = AllBecome l.layout (map pos l.ours) (take l.k l.pieces) l.candidates
