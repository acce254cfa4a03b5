use Rattle.ch_unroll.proofs.Pushing.{TurnsSoFar}
use Rattle.ch_unroll.proofs.copies.push_turns.Given as goal

abbrev pub invariant-loop-remainder : goal.invariant-loop-remainder
invariant-loop-remainder l = TurnsSoFar l.layout l.piece l.remainder l.initial.candidates l.candidates
