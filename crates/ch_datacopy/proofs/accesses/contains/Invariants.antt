use Rattle.std.proofs.Common.{take}
use Rattle.ch_timed.specs.Members.{In}
use Rattle.ch_datacopy.proofs.accesses.contains.Given as goal

abbrev pub invariant-loop-other : goal.invariant-loop-other
invariant-loop-other l = In l.access (take l.other-index l.accesses) → ⊥
