use Rattle.std.proofs.Common.{◌≡◌, ◌≤◌, length, pos}
use Rattle.ch_poly.specs.Boxes.{IsBoxed, Inside, widths}
use Rattle.ch_poly.specs.Goals.{Keeps, Reaches}
use Rattle.ch_poly.proofs.equality.narrow_by_equalities.Given as goal

abbrev pub invariant-loop-line : goal.invariant-loop-line
invariant-loop-line l = record {
  boxed : IsBoxed l.lows l.highs;
  inside : Inside l.initial.lows l.initial.highs l.lows l.highs;
  keeps : Keeps (Reaches (pos 0) l.rows) l.initial.lows l.initial.highs l.lows l.highs;
  narrower : widths l.lows l.highs ≤ widths l.initial.lows l.initial.highs;
  sums : length l.sums ≡ length l.initial.lows;
  negatives : length l.negatives ≡ length l.initial.lows;
}
