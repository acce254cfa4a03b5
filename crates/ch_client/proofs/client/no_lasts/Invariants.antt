use Rattle.std.proofs.Common.{◌≡◌, ◌≤◌, ◌<◌, ℕ, length, get_or, vec_capacity, None}
use Rattle.ch_client.specs.declared.last.Last.{Last}
use Rattle.ch_client.proofs.client.no_lasts.Given as goal

abbrev pub invariant-loop : goal.invariant-loop
invariant-loop g l = record {
  long : length l.lasts.items ≡ l.counter;
  room : l.count ≤ vec_capacity l.lasts;
  none : (i : ℕ) (x : Last g.row.V.Denot) → i < l.counter → get_or l.lasts.items i x ≡ record { how = None; variant = None };
}
