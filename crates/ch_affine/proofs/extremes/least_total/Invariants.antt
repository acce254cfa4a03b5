use Rattle.std.proofs.Common.{◌≡◌, ◌≤◌, ◌^◌, ◌+ℤ◌, ◌+◌, ◌*◌, drop, unsigned_abs}
use Rattle.ch_affine.specs.Corners.{least_sum}
use Rattle.ch_affine.proofs.extremes.least_total.Given as goal

abbrev pub invariant-loop-k : goal.invariant-loop-k
invariant-loop-k l = record {
  rest : l.sum +ℤ least_sum (drop l.k l.coefs) (drop l.k l.boxes) ≡ l.constant +ℤ least_sum l.coefs l.boxes;
  bound : unsigned_abs l.sum ≤ 2 ^ 60 + l.k * 2 ^ 114;
}
