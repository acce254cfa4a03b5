use Rattle.std.proofs.Common.{◌≡◌, drop}
use Rattle.ch_nest.specs.Shape.{all_numbered}
use Rattle.ch_nest.proofs.shape.+labels.Given as goal

abbrev pub invariant-all_numbered-loop-item : goal.invariant-all_numbered-loop-item
invariant-all_numbered-loop-item l = all_numbered (drop l.item-index l.items) l.next ≡ all_numbered l.items l.label
