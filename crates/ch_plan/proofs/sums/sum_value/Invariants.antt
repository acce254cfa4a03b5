use Rattle.std.proofs.Common.{◌≡◌, ◌+ℤ◌, drop}
use Rattle.std.specs.Int.{int_wrap, w64}
use Rattle.ch_plan.specs.Planned.{weighed}
use Rattle.ch_plan.proofs.sums.sum_value.Given as goal

abbrev pub invariant-loop-k : goal.invariant-loop-k
invariant-loop-k l = int_wrap w64 (l.total +ℤ weighed (drop l.k l.terms) l.point) ≡ int_wrap w64 (l.sum.constant +ℤ weighed l.terms l.point)
