use Rattle.std.proofs.Common.{pos, map, unsigned_abs, ◌-ℤ◌}
use Rattle.ch_poly.specs.Goals.{Reaches}
use Rattle.ch_poly.specs.Extremes.{HasValue, IsBelow}
use Rattle.ch_poly.proofs.extremes.greatest_in.Given as goal

abbrev pub invariant-loop-low : goal.invariant-loop-low
invariant-loop-low l = record {
  has : HasValue (Reaches (pos 0) l.rows) l.form l.low (map (λ b. b.low) l.boxes) (map (λ b. b.high) l.boxes);
  below : IsBelow (Reaches (pos 0) l.rows) l.form l.high (map (λ b. b.low) l.boxes) (map (λ b. b.high) l.boxes);
}

abbrev pub decreases-loop-low : goal.decreases-loop-low
decreases-loop-low l = unsigned_abs (l.high -ℤ l.low)
