use Rattle.std.proofs.Common.{◌≡◌, ◌≤◌, ◌^◌, ◌+ℤ◌, ◌+◌, ◌*◌, drop, unsigned_abs}
use Rattle.ch_affine.specs.Affine.{dot}
use Rattle.ch_order.specs.WideNumbers.{IsLowPart, number}
use Rattle.ch_order.proofs.exact.weighed.Given as goal

abbrev pub invariant-loop-k : goal.invariant-loop-k
invariant-loop-k l = record {
  rest : number l.sum.high l.sum.low +ℤ dot (drop l.k l.coefs) (drop l.k l.point) ≡ l.constant +ℤ dot l.coefs l.point;
  low : IsLowPart l.sum.low;
  high : unsigned_abs l.sum.high ≤ (l.k + 1) * (2 ^ 62 + 2);
}
