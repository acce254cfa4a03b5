use Rattle.std.proofs.Common.{◌≡◌, ◌+ℤ◌, drop}
use Rattle.std.specs.Int.{int_wrap, w128}
use Rattle.ch_plan.specs.Planned.{weighed}
use Rattle.ch_plan.proofs.sums.wide_value.Given as goal

abbrev pub invariant-loop-k : goal.invariant-loop-k
invariant-loop-k l = int_wrap w128 (l.total +ℤ weighed (drop l.k l.terms) l.point) ≡ int_wrap w128 (l.sum.constant +ℤ weighed l.terms l.point)
