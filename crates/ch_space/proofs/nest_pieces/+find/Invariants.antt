use Rattle.std.proofs.Common.{take}
use Rattle.ch_space.specs.Fitting.{Places}
use Rattle.ch_space.specs.Statements.{findings}
use Rattle.ch_space.proofs.nest_pieces.+find.Given as goal

abbrev pub invariant-find_items-loop-item : goal.invariant-find_items-loop-item
invariant-find_items-loop-item l = Places (findings (take l.item-index l.items)) l.around l.places l.first l.place l.initial.found l.found
