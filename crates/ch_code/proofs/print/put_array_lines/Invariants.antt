use Rattle.std.proofs.Common.{◌≡◌, ◌++◌, take}
use Rattle.std.specs.List.{flat_map}
use Rattle.ch_code.specs.CodeText.{array_line}
use Rattle.ch_code.proofs.print.put_array_lines.Given as goal

abbrev pub invariant-loop-array : goal.invariant-loop-array
invariant-loop-array l = l.out ≡ l.initial.out ++ flat_map array_line (take l.array-index l.arrays)
