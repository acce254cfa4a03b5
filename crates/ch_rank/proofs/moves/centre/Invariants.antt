use Rattle.std.proofs.Common.{◌≡◌, take, length}
use Rattle.ch_rank.specs.Moves.{centre}
use Rattle.ch_rank.proofs.moves.centre.Given as goal

abbrev pub invariant-loop-k : goal.invariant-loop-k
invariant-loop-k l = (length l.indices ≡ 6) × (take l.k l.indices ≡ take l.k (centre l.sizes))
