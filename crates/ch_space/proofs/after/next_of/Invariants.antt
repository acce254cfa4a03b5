use Rattle.std.proofs.Common.{take}
use Rattle.std.specs.List.{flat_map}
use Rattle.ch_space.specs.Following.{IsNext}
use Rattle.ch_space.specs.Pieces.{elements}
use Rattle.ch_space.proofs.after.next_of.Given as goal

abbrev pub invariant-loop-piece : goal.invariant-loop-piece
invariant-loop-piece l = IsNext l.vector (flat_map elements (take l.piece-index l.pieces)) l.next
