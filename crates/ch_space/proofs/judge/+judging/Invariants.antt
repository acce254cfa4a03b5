use Rattle.std.proofs.Common.{◌≤ℤ◌}
use Rattle.ch_nest.specs.Run.{count}
use Rattle.ch_space.proofs.Judgings.{Rest, Turned}
use Rattle.ch_space.proofs.judge.+judging.Given as goal

abbrev pub invariant-walk_items-loop-item : goal.invariant-walk_items-loop-item
invariant-walk_items-loop-item l = Rest l.nest l.items l.point l.item-index l.initial.walk l.walk

abbrev pub invariant-walk_item-turns : goal.invariant-walk_item-turns
invariant-walk_item-turns l = record {
  from : l.initial.value ≤ℤ l.value;
  turned : Turned l.nest l.item l.items l.point l.step l.value l.high l.initial.walk l.walk;
}

abbrev pub decreases-walk_item-turns : goal.decreases-walk_item-turns
decreases-walk_item-turns l = count l.value l.high
