use Rattle.std.proofs.Common.{◌≡◌, ◌≤◌, ◌^◌, ◌*◌, ◌+ℤ◌, drop, unsigned_abs}
use Rattle.ch_affine.specs.Affine.{dot}
use Rattle.ch_moved.specs.Spread.{column}
use Rattle.ch_moved.proofs.substitute.coefficient.Given as goal

abbrev pub invariant-loop-k : goal.invariant-loop-k
invariant-loop-k l = record {
  rest : l.sum +ℤ dot (drop l.k l.factors) (column l.place (drop l.k l.forms)) ≡ dot l.factors (column l.place l.forms);
  bound : unsigned_abs l.sum ≤ l.k * 2 ^ 120;
}
