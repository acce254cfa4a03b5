use Rattle.std.proofs.Common.{◌≡◌, ◌+◌, drop}
use Rattle.ch_permute.specs.Turned.{place}
use Rattle.ch_permute.proofs.ordering.place.Given as goal

abbrev pub invariant-loop-k : goal.invariant-loop-k
invariant-loop-k l = place l.number l.numbers ≡ l.k + place l.number (drop l.k l.numbers)
