use Rattle.std.proofs.Common.{◌≡◌, ◌≤◌, ◌^◌, ◌+ℤ◌, ◌+◌, ◌*◌, drop, unsigned_abs}
use Rattle.ch_affine.specs.Corners.{greatest_sum}
use Rattle.ch_affine.proofs.extremes.greatest_total.Given as goal

abbrev pub invariant-loop-k : goal.invariant-loop-k
invariant-loop-k l = record {
  rest : l.sum +ℤ greatest_sum (drop l.k l.coefs) (drop l.k l.boxes) ≡ l.constant +ℤ greatest_sum l.coefs l.boxes;
  bound : unsigned_abs l.sum ≤ 2 ^ 60 + l.k * 2 ^ 114;
}
