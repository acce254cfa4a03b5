use Rattle.std.proofs.Common.{◌≡◌, ◌++◌}
use Rattle.ch_code.specs.CodeText.{margin}
use Rattle.ch_code.proofs.print.put_margin.Given as goal

abbrev pub invariant-loop-k : goal.invariant-loop-k
invariant-loop-k l = l.out ≡ l.initial.out ++ margin l._k
