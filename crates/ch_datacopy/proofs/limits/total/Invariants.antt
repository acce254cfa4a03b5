use Rattle.std.proofs.Common.{◌≡◌, ◌≤◌, ◌*◌, ◌^◌, sum, take}
use Rattle.ch_datacopy.proofs.limits.total.Given as goal

abbrev pub invariant-loop-count : goal.invariant-loop-count
invariant-loop-count l = record {
  value : l.total ≡ sum (take l.count-index l.counts);
  near : l.total ≤ l.count-index * 2 ^ 64;
}
