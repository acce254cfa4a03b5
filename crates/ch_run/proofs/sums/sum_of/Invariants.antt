use Rattle.std.proofs.Common.{◌≡◌, ◌+◌, ◌+ℤ◌, drop, w64}
use Rattle.std.specs.Int.{int_wrap}
use Rattle.ch_run.specs.EvalText.{sum_of, weighted_from}
use Rattle.ch_run.proofs.sums.sum_of.Given as goal

abbrev pub invariant-loop-place : goal.invariant-loop-place
invariant-loop-place l = int_wrap w64 (l.sum +ℤ weighted_from (l.place + 1) (drop l.place l.cells)) ≡ sum_of l.cells
