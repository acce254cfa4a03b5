use Rattle.std.proofs.Common.{ℕ, ◌<◌}
use Rattle.ch_depends.specs.Sought.{Meets}
use Rattle.ch_depends.proofs.levels.depend.Given as goal

abbrev pub invariant-loop-differing : goal.invariant-loop-differing
invariant-loop-differing l = (k : ℕ) → k < l.differing → Meets l.from.piece.now l.to.piece.now k → ⊥
