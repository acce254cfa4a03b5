use Rattle.std.proofs.Common.{◌≡◌, ◌++◌, drop}
use Rattle.ch_nestprint.specs.Printed.{arrays_symbols}
use Rattle.ch_nestprint.proofs.declared.put_arrays.Given as goal

abbrev pub invariant-loop-i : goal.invariant-loop-i
invariant-loop-i l = l.out ++ arrays_symbols (drop l.i l.arrays) (drop l.i l.fills) ≡ l.initial.out ++ arrays_symbols l.arrays l.fills
