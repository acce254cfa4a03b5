use Rattle.std.proofs.Common.{◌≡◌, ◌++◌, drop}
use Rattle.ch_code.specs.CodeText.{buffer_lines}
use Rattle.ch_code.proofs.print.put_buffer_lines.Given as goal

abbrev pub invariant-loop-k : goal.invariant-loop-k
invariant-loop-k l = l.out ++ buffer_lines l.k (drop l.k l.temps) ≡ l.initial.out ++ buffer_lines 0 l.temps
