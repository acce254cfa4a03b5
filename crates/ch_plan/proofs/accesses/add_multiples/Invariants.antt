use Rattle.std.proofs.Common.{◌≡◌, ◌+ℤ◌, ◌*ℤ◌, ℤ, List, length, take, w64}
use Rattle.std.specs.Int.{int_wrap}
use Rattle.ch_affine.specs.Affine.{dot}
use Rattle.ch_plan.proofs.accesses.add_multiples.Given as goal

abbrev pub invariant-loop-k : goal.invariant-loop-k
invariant-loop-k l = (xs : List ℤ) → int_wrap w64 (dot l.coefs xs) ≡ int_wrap w64 (dot l.fn.coefs xs +ℤ l.factor *ℤ dot (take l.k l.others) xs)
