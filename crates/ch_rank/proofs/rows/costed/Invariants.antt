use Rattle.std.proofs.Common.{◌≡◌, length, take, Some}
use Rattle.ch_rank.specs.Search.{costed}
use Rattle.ch_rank.specs.Board.{known_by}
use Rattle.ch_rank.proofs.rows.costed.Given as goal

abbrev pub invariant-loop-trial : goal.invariant-loop-trial
invariant-loop-trial l = (length l.row ≡ l.trial-index) × (costed (known_by l.outcomes) (take l.trial-index l.trials) ≡ Some l.row)
