use Rattle.std.proofs.Common.{◌≡◌, ◌-◌, ◌++◌}
use Rattle.ch_space.specs.Built.{units}
use Rattle.ch_datacopy.proofs.candidates.units.Given as goal

abbrev pub invariant-loop-k : goal.invariant-loop-k
invariant-loop-k l = l.forms ++ units l.k (l.count - l.k) ≡ units 0 l.count
