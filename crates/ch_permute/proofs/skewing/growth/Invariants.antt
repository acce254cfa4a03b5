use Rattle.std.proofs.Common.{◌≡◌, ◌≤◌, ◌+◌, ◌*◌, map, sum, take, unsigned_abs}
use Rattle.ch_permute.proofs.skewing.growth.Given as goal

abbrev pub invariant-loop-amount : goal.invariant-loop-amount
invariant-loop-amount l = record {
  value : l.growth ≡ 1 + sum (map unsigned_abs (take l.amount-index l.amounts));
  few : l.growth ≤ 1 + 64 * l.amount-index;
}
