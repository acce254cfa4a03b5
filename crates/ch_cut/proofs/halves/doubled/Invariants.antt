use Rattle.std.proofs.Common.{◌≡◌, map, pos, take}
use Rattle.ch_cut.specs.Parts.{doubled}
use Rattle.ch_cut.proofs.halves.doubled.Given as goal

abbrev pub invariant-loop-k : goal.invariant-loop-k
invariant-loop-k l = map pos l.new ≡ take l.k (doubled l.level (pos l.more) (map pos l.places))
