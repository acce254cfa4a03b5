use Rattle.std.proofs.Common.{◌≡◌, ◌≤◌, ◌^◌, ◌+ℤ◌, ◌+◌, ◌*◌, drop, unsigned_abs}
use Rattle.ch_affine.specs.Affine.{dot}
use Rattle.ch_nest.proofs.flat.exact.Given as goal

abbrev pub invariant-loop-k : goal.invariant-loop-k
invariant-loop-k l = record {
  rest : l.value +ℤ dot (drop l.k l.coefs) (drop l.k l.point) ≡ l.form.constant +ℤ dot l.coefs l.point;
  bound : unsigned_abs l.value ≤ 2 ^ 60 + l.k * 2 ^ 123;
}
