use Rattle.std.proofs.Common.{◌≡◌, ◌+◌, ◌++◌, drop}
use Rattle.ch_code.specs.CodeText.{more_origins_text}
use Rattle.ch_code.proofs.print.put_origins.Given as goal

abbrev pub invariant-loop-k : goal.invariant-loop-k
invariant-loop-k l = l.out ++ more_origins_text l.around (l.k + 2) (drop l.k l.rest) ≡ l.initial.out ++ more_origins_text l.around 2 l.rest
