use Rattle.std.proofs.Common.{◌≤◌, ◌<◌, IsTrue}
use Rattle.ch_poly.specs.Boxes.{IsBoxed, Inside, widths}
use Rattle.ch_poly.specs.Goals.{Reaches, Keeps}
use Rattle.ch_poly.proofs.narrow.narrow_rows.Given as goal

abbrev pub invariant-loop-row : goal.invariant-loop-row
invariant-loop-row l = record {
  boxed : IsBoxed l.lows l.highs;
  inside : Inside l.initial.lows l.initial.highs l.lows l.highs;
  keeps : Keeps (Reaches l.bound l.rows) l.initial.lows l.initial.highs l.lows l.highs;
  narrower : widths l.lows l.highs ≤ widths l.initial.lows l.initial.highs;
  changed : IsTrue l.changed → widths l.lows l.highs < widths l.initial.lows l.initial.highs;
}
