use Rattle.std.proofs.Common.{◌≡◌, ◌++◌, drop}
use Rattle.std.specs.List.{flat_map}
use Rattle.ch_nestprint.specs.Printed.{extent_symbols}
use Rattle.ch_nestprint.proofs.declared.put_extents.Given as goal

abbrev pub invariant-loop-extent : goal.invariant-loop-extent
invariant-loop-extent l = l.out ++ flat_map extent_symbols (drop l.extent-index l.extents) ≡ l.fn.out ++ flat_map extent_symbols l.extents
