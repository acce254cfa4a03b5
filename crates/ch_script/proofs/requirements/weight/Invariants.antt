use Rattle.std.proofs.Common.{◌≡◌, ◌≤◌, ◌*◌, ◌^◌, ◌+ℤ◌, drop, unsigned_abs}
use Rattle.ch_script.specs.Requirements.{weight_of}
use Rattle.ch_script.specs.Values.{total}
use Rattle.ch_script.proofs.requirements.weight.Given as goal

abbrev pub invariant-loop-term : goal.invariant-loop-term
invariant-loop-term l = record {
  rest : l.sum +ℤ total (weight_of l.param) (drop l.term-index l.terms) ≡ total (weight_of l.param) l.terms;
  bound : unsigned_abs l.sum ≤ l.term-index * 2 ^ 32;
}
