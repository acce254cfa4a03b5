use Rattle.std.proofs.Common.{pos, take}
use Rattle.ch_permute.specs.Changed.{AllBecome}
use Rattle.ch_permute.specs.Permuted.{in_moving, moving, picked}
use Rattle.ch_space.specs.Pieces.{listed}
use Rattle.ch_permute.proofs.change.permuted_pieces.Given as goal

abbrev pub invariant-loop-piece : goal.invariant-loop-piece
invariant-loop-piece l = AllBecome (in_moving (listed l.pieces) (pos l.fn.number) (moving 1 l.order)) (picked l.order) 1 (take l.piece-index l.pieces) l.new
