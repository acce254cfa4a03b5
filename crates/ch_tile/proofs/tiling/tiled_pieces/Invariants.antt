use Rattle.std.proofs.Common.{take, ◌-◌}
use Rattle.ch_space.specs.Pieces.{listed}
use Rattle.ch_tile.specs.Pieces.{AllBecome}
use Rattle.ch_timed.specs.Groups.{in_group}
use Rattle.ch_tile.proofs.tiling.tiled_pieces.Given as goal

abbrev pub invariant-loop-piece : goal.invariant-loop-piece
invariant-loop-piece l = AllBecome (in_group (listed l.pieces) l.fn.number l.outer) (l.level - 1) l.size (l.outer - 1) (take l.piece-index l.pieces) l.new
