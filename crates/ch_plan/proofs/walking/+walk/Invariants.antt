use Rattle.std.proofs.Common.{◌≡◌, ℤ, drop, set, length}
use Rattle.ch_plan.specs.Planned.{meter_plan, meter_plans, run_plan, run_plans, state, turns_done, turns_metered}
use Rattle.ch_plan.proofs.walking.+walk.Given as goal

abbrev pub invariant-walk-loop-k : goal.invariant-walk-loop-k
invariant-walk-loop-k l = record {
  room : l.room ≡ l.initial.room;
  point : (x : ℤ) → set l.point l.level x ≡ set l.initial.point l.level x;
  cells : l.cells ≡ turns_done l.k l.low (λ x. run_plan l.setting.vars l.setting.rows l.inner (set l.initial.point l.level x)) l.initial.cells;
  depth : length l.tally.last.items ≡ length l.initial.point;
  long : length l.point ≡ length l.initial.point;
  meter : state l.tally ≡ turns_metered l.k l.low (λ x. meter_plan l.setting l.inner (set l.initial.point l.level x)) (state l.initial.tally);
}

abbrev pub invariant-walk_all-loop-plan : goal.invariant-walk_all-loop-plan
invariant-walk_all-loop-plan l = record {
  room : l.room ≡ l.initial.room;
  point : l.point ≡ l.initial.point;
  cells : run_plans l.setting.vars l.setting.rows (drop l.plan-index l.plans) l.point l.cells ≡ run_plans l.setting.vars l.setting.rows l.plans l.initial.point l.initial.cells;
  depth : length l.tally.last.items ≡ length l.initial.point;
  meter : meter_plans l.setting (drop l.plan-index l.plans) l.point (state l.tally) ≡ meter_plans l.setting l.plans l.initial.point (state l.initial.tally);
}
