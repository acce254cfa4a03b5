use Rattle.std.proofs.Common.{map, pos, take}
use Rattle.ch_datacopy.specs.Sources.{AddsCells, sources}
use Rattle.ch_datacopy.proofs.uses.push_uses.Given as goal

abbrev pub invariant-loop-piece : goal.invariant-loop-piece
invariant-loop-piece l = AddsCells l.chosen.around (sources l.chosen.way l.chosen.array (map pos l.ours) l.chosen.around (take l.piece-index l.pieces)) l.initial.all l.all
