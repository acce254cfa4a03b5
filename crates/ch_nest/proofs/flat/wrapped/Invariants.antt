use Rattle.std.proofs.Common.{◌≡◌, ◌+ℤ◌, drop, w64}
use Rattle.std.specs.Int.{int_wrap}
use Rattle.ch_affine.specs.Affine.{dot}
use Rattle.ch_nest.proofs.flat.wrapped.Given as goal

abbrev pub invariant-loop-k : goal.invariant-loop-k
invariant-loop-k l = int_wrap w64 (l.sum +ℤ dot (drop l.k l.coefs) (drop l.k l.point)) ≡ int_wrap w64 (l.form.constant +ℤ dot l.coefs l.point)
