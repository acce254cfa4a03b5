use Rattle.std.proofs.Common.{◌≡◌, map, take}
use Rattle.ch_timed.specs.Conflict.{cell_of}
use Rattle.ch_depends.proofs.cells.cells_of.Given as goal

abbrev pub invariant-loop-access : goal.invariant-loop-access
invariant-loop-access l = l.cells ≡ map (cell_of l.element.identity.iters) (take l.access-index (map (λ a. a.now) l.access-items))
