use Rattle.std.proofs.Common.{◌≡◌, ◌+ℤ◌, drop}
use Rattle.std.specs.Int.{int_wrap, w128}
use Rattle.ch_plan.specs.Planned.{mixed}
use Rattle.ch_plan.proofs.sums.mixed.Given as goal

abbrev pub invariant-loop-k : goal.invariant-loop-k
invariant-loop-k l = int_wrap w128 (l.total +ℤ mixed (drop l.k l.weights) l.point) ≡ int_wrap w128 (l.constant +ℤ mixed l.weights l.point)
