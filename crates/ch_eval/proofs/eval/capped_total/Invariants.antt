use Rattle.std.proofs.Common.{◌≡◌, ◌+◌, ◌≤◌, min, drop}
use Rattle.ch_nest.specs.Arrays.{total}
use Rattle.ch_eval.specs.Cells.{most_length}
use Rattle.ch_eval.proofs.eval.capped_total.Given as goal

abbrev pub invariant-loop-extents : goal.invariant-loop-extents
invariant-loop-extents l = record {
  sum : min most_length (l.cells + total (drop l.extents-index l.temps)) ≡ min most_length (total l.temps);
  most : l.cells ≤ most_length;
}
