use Rattle.std.proofs.Common.{◌≡◌, ◌++◌, ◌∷◌, ◌*◌, replicate}
use Rattle.ch_nestprint.proofs.layout.put_line.Given as goal

abbrev pub invariant-loop-level : goal.invariant-loop-level
invariant-loop-level l = l.out ≡ l.fn.out ++ (10 ∷ replicate (4 * l._level) 32)
