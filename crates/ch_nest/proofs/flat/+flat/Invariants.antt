use Rattle.std.proofs.Common.{◌≡◌, ◌≤ℤ◌, drop, set}
use Rattle.ch_nest.specs.Fast.{near, run_flat, run_flats}
use Rattle.ch_nest.specs.Run.{count, loop_values, turns}
use Rattle.ch_nest.proofs.flat.+flat.Given as goal

abbrev pub invariant-run_flat-turns : goal.invariant-run_flat-turns
invariant-run_flat-turns l = record {
  from : l.initial.value ≤ℤ l.value;
  rest : turns (loop_values l.value l.high l.step) (λ i. run_flats l.items (set l.point l.level (near i))) l.cells ≡ run_flat l.item l.point l.initial.cells;
}

abbrev pub decreases-run_flat-turns : goal.decreases-run_flat-turns
decreases-run_flat-turns l = count l.value l.high

abbrev pub invariant-run_flats-loop-item : goal.invariant-run_flats-loop-item
invariant-run_flats-loop-item l = run_flats (drop l.item-index l.items) l.point l.cells ≡ run_flats l.items l.point l.initial.cells
