use Rattle.std.proofs.Common.{◌≡◌, ◌+◌, ◌*◌, ◌^◌, ◌+ℤ◌, drop}
use Rattle.ch_nest.specs.Shape.{greatest_sum, least_sum}
use Rattle.ch_space.specs.Keeps.{IsBounded}
use Rattle.ch_permute.proofs.ranges.greater.Given as goal

abbrev pub invariant-loop-k : goal.invariant-loop-k
invariant-loop-k l = record {
  low : l.sum.low +ℤ least_sum (drop l.k l.amounts) (drop l.k l.boxes) ≡ (l.fn.range.low +ℤ l.amount) +ℤ least_sum l.amounts l.boxes;
  high : l.sum.high +ℤ greatest_sum (drop l.k l.amounts) (drop l.k l.boxes) ≡ (l.fn.range.high +ℤ l.amount) +ℤ greatest_sum l.amounts l.boxes;
  small : IsBounded (2 ^ 55 + l.k * 2 ^ 57) l.sum;
}
