use Rattle.std.proofs.Common.{◌≤◌}
use Rattle.ch_poly.specs.Boxes.{IsBoxed, Inside, widths}
use Rattle.ch_poly.specs.Goals.{Keeps}
use Rattle.ch_poly.specs.Mixes.{IsEqualTo}
use Rattle.ch_poly.proofs.equality.raise.Given as goal

abbrev pub invariant-loop : goal.invariant-loop
invariant-loop l = record {
  boxed : IsBoxed l.lows l.highs;
  inside : Inside l.initial.lows l.initial.highs l.lows l.highs;
  keeps : Keeps (IsEqualTo l.e.coefs.now l.e.value) l.initial.lows l.initial.highs l.lows l.highs;
  narrower : widths l.lows l.highs ≤ widths l.initial.lows l.initial.highs;
}
