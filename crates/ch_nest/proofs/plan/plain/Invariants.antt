use Rattle.std.proofs.Common.{◌≡◌, length, pos}
use Rattle.std.specs.List.{All}
use Rattle.ch_nest.proofs.plan.plain.Given as goal

abbrev pub invariant-loop-k : goal.invariant-loop-k
invariant-loop-k l = record {
  same : length l.coefs ≡ l._k;
  zeros : All (λ c. c ≡ pos 0) l.coefs;
}
