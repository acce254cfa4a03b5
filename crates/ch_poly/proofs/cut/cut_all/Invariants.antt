use Rattle.std.proofs.Common.{◌≤◌, ◌<◌, IsTrue}
use Rattle.ch_poly.specs.Boxes.{IsBoxed, Inside, widths}
use Rattle.ch_poly.specs.Cutting.{KeepsNear, IsSameFrom}
use Rattle.ch_poly.proofs.cut.cut_all.Given as goal

abbrev pub invariant-loop-k : goal.invariant-loop-k
invariant-loop-k l = record {
  boxed : IsBoxed l.lows l.highs;
  inside : Inside l.initial.lows l.initial.highs l.lows l.highs;
  low_same : IsSameFrom l.k l.initial.lows l.lows;
  high_same : IsSameFrom l.k l.initial.highs l.highs;
  keeps : KeepsNear l.coefs l.slack l.initial.lows l.initial.highs l.lows l.highs;
  narrower : widths l.lows l.highs ≤ widths l.initial.lows l.initial.highs;
  changed : IsTrue l.changed → widths l.lows l.highs < widths l.initial.lows l.initial.highs;
}
