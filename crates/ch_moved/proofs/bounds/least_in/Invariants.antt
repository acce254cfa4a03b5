use Rattle.std.proofs.Common.{◌≡◌, ◌≤◌, ◌^◌, ◌+◌, ◌*◌, ◌+ℤ◌, drop, unsigned_abs}
use Rattle.ch_nest.specs.Shape.{least_in, least_sum}
use Rattle.ch_moved.proofs.bounds.least_in.Given as goal

abbrev pub invariant-loop-k : goal.invariant-loop-k
invariant-loop-k l = record {
  rest : l.sum +ℤ least_sum (drop l.k l.coefs) (drop l.k l.boxes) ≡ least_in l.boxes l.row;
  bound : unsigned_abs l.sum ≤ 2 ^ 60 + l.k * 2 ^ 114;
}
