use Rattle.ch_rank.specs.Search.{best}
use Rattle.ch_rank.proofs.Best.{BestSoFar}
use Rattle.ch_rank.proofs.rows.place_of_best.Given as goal

abbrev pub invariant-loop-i : goal.invariant-loop-i
invariant-loop-i l = BestSoFar l.row (best l.row) l.at l.i
