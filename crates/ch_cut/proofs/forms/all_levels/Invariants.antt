use Rattle.std.proofs.Common.{◌≡◌, ◌-◌, ◌++◌}
use Rattle.ch_space.specs.Built.{units}
use Rattle.ch_cut.proofs.forms.all_levels.Given as goal

abbrev pub invariant-loop-k : goal.invariant-loop-k
invariant-loop-k l = l.forms ++ units l.k (l.levels - l.k) ≡ units 0 l.levels
