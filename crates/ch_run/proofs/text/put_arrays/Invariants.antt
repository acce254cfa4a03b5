use Rattle.std.proofs.Common.{◌≡◌, ◌++◌, drop}
use Rattle.ch_run.specs.EvalText.{array_lines}
use Rattle.ch_run.proofs.text.put_arrays.Given as goal

abbrev pub invariant-loop-array : goal.invariant-loop-array
invariant-loop-array l = l.out ++ array_lines l.sums (drop l.array-index l.arrays) l.rest ≡ l.initial.out ++ array_lines l.sums l.arrays l.cells
