use Rattle.std.proofs.Common.{◌≡◌, ◌≤◌, max, drop}
use Rattle.ch_rank.specs.Bound.{greatest}
use Rattle.ch_rank.proofs.bound.greatest.Given as goal

abbrev pub invariant-loop-size : goal.invariant-loop-size
invariant-loop-size l = (1 ≤ l.most) × (max l.most (greatest (drop l.size-index l.sizes)) ≡ greatest l.sizes)
