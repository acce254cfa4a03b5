use Rattle.std.proofs.Common.{◌≡◌, ◌≤◌, ◌^◌, ◌+ℤ◌, ◌+◌, ◌*◌, drop, unsigned_abs}
use Rattle.ch_poly.specs.Boxes.{peaks}
use Rattle.ch_poly.proofs.peak.most.Given as goal

abbrev pub invariant-loop-k : goal.invariant-loop-k
invariant-loop-k l = record {
  rest : l.sum +ℤ peaks (drop l.k l.coefs) (drop l.k l.lows) (drop l.k l.highs) ≡ l.constant +ℤ peaks l.coefs l.lows l.highs;
  bound : unsigned_abs l.sum ≤ 2 ^ 60 + l.k * 2 ^ 114;
}
