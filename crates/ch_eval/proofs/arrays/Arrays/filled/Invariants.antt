use Rattle.std.proofs.Common.{◌≡◌, ◌<◌, ◌≤◌, ℕ, get_or, length, sum, take}
use Rattle.ch_eval.specs.Cells.{sizes_of}
use Rattle.ch_eval.proofs.arrays.Arrays.filled.Given as goal

abbrev pub invariant-loop-array : goal.invariant-loop-array
invariant-loop-array l = record {
  few : l.array-index ≤ length l.arrays;
  sizes : l.sizes.items ≡ take l.array-index (sizes_of l.arrays);
  count : length l.starts.items ≡ l.array-index;
  starts : (k : ℕ) → k < l.array-index → get_or l.starts.items k 0 ≡ sum (take k (sizes_of l.arrays));
  start : l.start ≡ sum (take l.array-index (sizes_of l.arrays));
}
