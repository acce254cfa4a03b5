use Rattle.std.proofs.Common.{◌≡◌, ◌++◌, drop}
use Rattle.ch_nestprint.specs.Minus.{minus_in_items}
use Rattle.ch_nestprint.proofs.minus.+sizes.Given as goal

abbrev pub invariant-items_sizes-loop-item : goal.invariant-items_sizes-loop-item
invariant-items_sizes-loop-item l = l.found ++ minus_in_items (drop l.item-index l.items) ≡ l.initial.found ++ minus_in_items l.items
