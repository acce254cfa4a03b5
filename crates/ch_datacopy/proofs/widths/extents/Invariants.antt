use Rattle.std.proofs.Common.{◌≡◌, ◌<◌, ◌≤◌, ◌+◌, ◌^◌, ℕ, length, get_or}
use Rattle.std.specs.List.{All}
use Rattle.ch_datacopy.specs.Widths.{IsWidth}
use Rattle.ch_datacopy.proofs.widths.extents.Given as goal

abbrev pub invariant-loop-k : goal.invariant-loop-k
invariant-loop-k l = record {
  count : length l.extents ≡ l.k;
  each : (j : ℕ) → j < l.k → (wide : ℕ) × (get_or l.extents j 0 ≡ wide + 1) × IsWidth l.around l.cells j l.all l.all wide;
  small : All (λ e. e ≤ 2 ^ 20) l.extents;
}
