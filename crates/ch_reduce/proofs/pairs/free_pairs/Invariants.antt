use Rattle.std.proofs.Common.{◌≡◌, ◌++◌, drop, map}
use Rattle.ch_reduce.specs.FreePairs.{pairs_from}
use Rattle.ch_reduce.proofs.pairs.free_pairs.Given as goal

abbrev pub invariant-loop-one : goal.invariant-loop-one
invariant-loop-one l =
    l.pairs ++ pairs_from l.one (drop l.one (map (λ p. p.body) l.pieces)) ≡ pairs_from 0 (map (λ p. p.body) l.pieces)
