use Rattle.std.proofs.Common.{◌≡◌, ◌++◌, drop, map}
use Rattle.ch_reduce.specs.FreePairs.{pairs_with}
use Rattle.ch_reduce.proofs.pairs.push_pairs.Given as goal

abbrev pub invariant-loop-other : goal.invariant-loop-other
invariant-loop-other l =
    l.pairs ++ pairs_with l.one l.piece.body l.other (drop l.other (map (λ p. p.body) l.pieces))
    ≡ l.initial.pairs ++ pairs_with l.one l.piece.body l.one (drop l.one (map (λ p. p.body) l.pieces))
