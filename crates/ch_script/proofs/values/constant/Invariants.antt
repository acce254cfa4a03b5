use Rattle.std.proofs.Common.{◌≡◌, ◌≤◌, ◌*◌, ◌^◌, ◌+ℤ◌, drop, unsigned_abs}
use Rattle.ch_script.specs.Values.{constant_of, total}
use Rattle.ch_script.proofs.values.constant.Given as goal

abbrev pub invariant-loop-term : goal.invariant-loop-term
invariant-loop-term l = record {
  rest : l.sum +ℤ total (constant_of l.values) (drop l.term-index l.terms) ≡ total (constant_of l.values) l.terms;
  bound : unsigned_abs l.sum ≤ l.term-index * 2 ^ 32;
}
