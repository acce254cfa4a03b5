use Rattle.std.proofs.Common.{◌≤ℤ◌, ◌+ℤ◌, ◌-ℤ◌, pos}
use Rattle.ch_poly.specs.Points.{natural}
use Rattle.ch_codegen.proofs.cuts.statements_cut.Given as goal

abbrev pub invariant-loop-low : goal.invariant-loop-low
invariant-loop-low l = l.whole.low ≤ℤ l.low

abbrev pub decreases-loop-low : goal.decreases-loop-low
decreases-loop-low l = natural ((l.whole.high +ℤ pos 1) -ℤ l.low)
