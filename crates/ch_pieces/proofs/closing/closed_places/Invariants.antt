use Rattle.ch_pieces.proofs.Ranked.{AreRanked}
use Rattle.ch_pieces.proofs.closing.closed_places.Given as goal

abbrev pub invariant-loop-k : goal.invariant-loop-k
invariant-loop-k l = AreRanked l.parts l.k l.closed
