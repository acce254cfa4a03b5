use Rattle.std.proofs.Common.{map}
use Rattle.ch_depends.proofs.Gathered.{Gleans}
use Rattle.ch_depends.proofs.sides.other_reads.Given as goal

abbrev pub invariant-loop-access : goal.invariant-loop-access
invariant-loop-access l = Gleans l.body.write (map (λ a. a.now) l.access-items) l.access-index (map (λ a. a.now) l.found)
