use Rattle.std.proofs.Common.{◌≡◌, ◌++◌, drop, map}
use Rattle.ch_space.specs.Judged.{access_count, bodies}
use Rattle.ch_space.proofs.accesses.+counts.Given as goal

abbrev pub invariant-push_counts-loop-item : goal.invariant-push_counts-loop-item
invariant-push_counts-loop-item l = l.counts ++ map access_count (bodies (drop l.item-index l.items)) ≡ l.initial.counts ++ map access_count (bodies l.items)
