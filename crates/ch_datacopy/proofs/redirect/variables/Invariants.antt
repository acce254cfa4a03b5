use Rattle.std.proofs.Common.{◌≡◌, ℕ, List, length, take}
use Rattle.ch_copied.specs.Bodies.{variables}
use Rattle.ch_datacopy.proofs.redirect.variables.Given as goal

abbrev pub invariant-loop-k : goal.invariant-loop-k
invariant-loop-k l = (extents : List ℕ) → length extents ≡ l.dimensions → l.subs ≡ take l.k (variables l.before extents)
