use Rattle.std.proofs.Common.{◌≡◌, ◌≤◌, ◌^◌, ◌+◌, ◌*◌, ◌+ℤ◌, drop, unsigned_abs}
use Rattle.ch_affine.specs.Affine.{dot}
use Rattle.ch_moved.specs.Spread.{constants}
use Rattle.ch_moved.proofs.substitute.constant.Given as goal

abbrev pub invariant-loop-k : goal.invariant-loop-k
invariant-loop-k l = record {
  rest : l.sum +ℤ dot (drop l.k l.factors) (constants (drop l.k l.forms)) ≡ l.start +ℤ dot l.factors (constants l.forms);
  bound : unsigned_abs l.sum ≤ 2 ^ 60 + l.k * 2 ^ 120;
}
