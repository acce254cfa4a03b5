use Rattle.std.proofs.Common.{◌≡◌, ◌++◌, [], drop, take}
use Rattle.ch_nestprint.specs.Printed.{lets_symbols}
use Rattle.ch_nestprint.proofs.declared.put_lets.Given as goal

abbrev pub invariant-loop-i : goal.invariant-loop-i
invariant-loop-i l = l.out ++ lets_symbols l.letters (take l.i l.sizes) (drop l.i l.sizes) ≡ l.initial.out ++ lets_symbols l.letters [] l.sizes
