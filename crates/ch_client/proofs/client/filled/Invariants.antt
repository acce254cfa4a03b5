use Rattle.std.proofs.Common.{◌≡◌, ◌≤◌, ◌<◌, ℕ, List, length, get_or, vec_capacity}
use Rattle.std.specs.Prelude.{ℤ}
use Rattle.ch_client.proofs.client.filled.Given as goal

abbrev pub invariant-loop-program : goal.invariant-loop-program
invariant-loop-program g l = record {
  long : length l.arrays.items ≡ l.program;
  room : l.programs ≤ vec_capacity l.arrays;
  filled : (p : ℕ) (x : List ℤ) → p < l.program → get_or l.arrays.items p x ≡ (g.B.Bench.means l.bench).filled l.number p;
}
