use Rattle.std.proofs.Common.{◌≡◌, ◌++◌, drop}
use Rattle.ch_nestprint.specs.Printed.{items_symbols}
use Rattle.ch_nestprint.proofs.program.+printed.Given as goal

abbrev pub invariant-put_items-loop-item : goal.invariant-put_items-loop-item
invariant-put_items-loop-item l = l.out ++ items_symbols l.arrays l.letters (drop l.item-index l.items) l.depth ≡ l.initial.out ++ items_symbols l.arrays l.letters l.items l.depth
