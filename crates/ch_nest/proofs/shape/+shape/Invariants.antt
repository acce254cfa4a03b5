use Rattle.std.proofs.Common.{◌≡◌, drop}
use Rattle.ch_nest.specs.Shape.{items_fit}
use Rattle.ch_nest.proofs.shape.+shape.Given as goal

abbrev pub invariant-items_fit-loop-item : goal.invariant-items_fit-loop-item
invariant-items_fit-loop-item l = items_fit l.arrays (drop l.item-index l.items) l.boxes ≡ items_fit l.arrays l.items l.boxes
