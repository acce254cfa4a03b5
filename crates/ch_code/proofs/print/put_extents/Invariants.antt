use Rattle.std.proofs.Common.{◌≡◌, ◌++◌, take}
use Rattle.std.specs.List.{flat_map}
use Rattle.ch_code.specs.CodeText.{extent_text}
use Rattle.ch_code.proofs.print.put_extents.Given as goal

abbrev pub invariant-loop-extent : goal.invariant-loop-extent
invariant-loop-extent l = l.out ≡ l.initial.out ++ flat_map extent_text (take l.extent-index l.extents)
