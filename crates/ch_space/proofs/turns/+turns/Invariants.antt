use Rattle.std.proofs.Common.{◌≡◌, ◌≤ℤ◌, ◌+◌, ◌*◌, length}
use Rattle.ch_nest.specs.Run.{count}
use Rattle.ch_space.specs.Fitting.{capped}
use Rattle.ch_space.proofs.TurnSteps.{Counting}
use Rattle.ch_space.proofs.turns.+turns.Given as goal

abbrev pub decreases-turns_up_to : goal.decreases-turns_up_to
decreases-turns_up_to l = 2 * length l.around.now

abbrev pub decreases-loop_turns : goal.decreases-loop_turns
decreases-loop_turns l = 2 * length l.inner.now + 1

abbrev pub invariant-loop_turns-turns : goal.invariant-loop_turns-turns
invariant-loop_turns-turns l = record {
  from : l.initial.value ≤ℤ l.value;
  small : l.sum ≡ capped l.sum;
  counting : Counting l.level l.inner l.point l.value l.high l.sum;
}

abbrev pub decreases-loop_turns-turns : goal.decreases-loop_turns-turns
decreases-loop_turns-turns l = count l.value l.high
