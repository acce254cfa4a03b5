use Rattle.std.proofs.Common.{◌≡◌, drop, map, max}
use Rattle.ch_datacopy.specs.Causes.{deepest}
use Rattle.ch_datacopy.proofs.limits.deepest.Given as goal
use Rattle.ch_space.specs.Keeps.{places_of}

abbrev pub invariant-loop-piece : goal.invariant-loop-piece
invariant-loop-piece l = max l.deepest (deepest (map places_of (drop l.piece-index l.pieces))) ≡ deepest (map places_of l.pieces)
