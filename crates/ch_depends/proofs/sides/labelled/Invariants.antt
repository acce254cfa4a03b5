use Rattle.std.proofs.Common.{◌≡◌, map}
use Rattle.ch_depends.proofs.Gathered.{Gathers}
use Rattle.ch_depends.proofs.sides.labelled.Given as goal

abbrev pub invariant-loop-piece : goal.invariant-loop-piece
invariant-loop-piece l = Gathers (λ r. r.label ≡ l.label) l.pieces l.piece-index (map (λ r. r.now) l.found)
