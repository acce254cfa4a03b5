use Rattle.std.proofs.Common.{length, ◌-◌}
use Rattle.ch_poly.specs.Boxes.{IsBoxed, Inside, widths}
use Rattle.ch_poly.specs.Goals.{Meets, Keeps}
use Rattle.ch_poly.proofs.search.+search.Given as goal

abbrev pub decreases-search : goal.decreases-search
decreases-search l = length l.lows.now - l.from

abbrev pub invariant-loop-from : goal.invariant-loop-from
invariant-loop-from l = record {
  boxed : IsBoxed l.lows l.highs;
  inside : Inside l.initial.lows l.initial.highs l.lows l.highs;
  keeps : Keeps (Meets l.goal.rows.now l.goal.tops.now l.goal.bound) l.initial.lows l.initial.highs l.lows l.highs;
}

abbrev pub decreases-loop-from : goal.decreases-loop-from
decreases-loop-from l = widths l.lows l.highs
