use Rattle.std.proofs.Common.{◌≡◌, ◌*ℤ◌, pos, drop, w64}
use Rattle.std.specs.Int.{int_wrap}
use Rattle.ch_nest.specs.Arrays.{cells_in}
use Rattle.ch_plan.proofs.accesses.stride.Given as goal

abbrev pub invariant-loop-k : goal.invariant-loop-k
invariant-loop-k l = int_wrap w64 (l.cells *ℤ pos (cells_in (drop l.k l.extents))) ≡ int_wrap w64 (pos (cells_in l.extents))
