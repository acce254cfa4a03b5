use Rattle.std.proofs.Common.{◌≡◌, ◌-◌}
use Rattle.ch_plan.specs.Planned.{kept_from, kept_levels}
use Rattle.ch_plan.proofs.meter.kept.Given as goal

abbrev pub invariant-loop-k : goal.invariant-loop-k
invariant-loop-k l = kept_from l.ours l.theirs l.point l.last (l.most - l.k) l.k ≡ kept_levels l.ours l.theirs l.point l.last
