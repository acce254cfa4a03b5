use Rattle.std.proofs.Common.{◌≡◌, ◌≤◌, ◌*◌, ◌^◌, ◌+ℤ◌, drop, unsigned_abs}
use Rattle.ch_script.specs.Values.{coef_of, total}
use Rattle.ch_script.proofs.values.coef.Given as goal

abbrev pub invariant-loop-term : goal.invariant-loop-term
invariant-loop-term l = record {
  rest : l.sum +ℤ total (coef_of l.level) (drop l.term-index l.terms) ≡ total (coef_of l.level) l.terms;
  bound : unsigned_abs l.sum ≤ l.term-index * 2 ^ 32;
}
