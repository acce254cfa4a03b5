use Rattle.std.proofs.Common.{take}
use Rattle.ch_datacopy.specs.Sources.{AddsCells, from_piece}
use Rattle.ch_datacopy.proofs.uses.push_cells.Given as goal

abbrev pub invariant-loop-access : goal.invariant-loop-access
invariant-loop-access l = AddsCells l.around (from_piece l.piece (take l.access-index l.accesses)) l.initial.all l.all
