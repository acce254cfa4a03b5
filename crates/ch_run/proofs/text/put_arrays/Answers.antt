use Rattle.std.proofs.Common.{◌≤◌, ◌^◌}
use Rattle.ch_nest.specs.Arrays.{cells_in}
use Rattle.ch_run.proofs.Lines.{few_at, some_at, take_few}
use Rattle.ch_run.proofs.text.put_arrays.Goals as goal

pub cells_in-requires-clause-few : goal.cells_in-requires-clause-few
cells_in-requires-clause-few c =
    rw (c.as_slice.ensures, c.array-item.is) (few_at c.args.arrays.now c.loop-array.array-index c.array-item.result c.loop-array-test.true c.requires)

pub cells_in-requires-clause-some : goal.cells_in-requires-clause-some
cells_in-requires-clause-some c =
    rw (c.as_slice.ensures, c.array-item.is) (some_at c.args.arrays.now c.loop-array.array-index c.array-item.result c.loop-array-test.true c.requires)

pub put_array-requires : goal.put_array-requires
put_array-requires c =
    let few : cells_in c.as_slice.result.now ≤ 2 ^ 40 =
    rw (c.as_slice.ensures, c.array-item.is) (few_at c.args.arrays.now c.loop-array.array-index c.array-item.result c.loop-array-test.true c.requires) in
    let count : c.cells_in.result ≤ 2 ^ 40 = rw c.cells_in.ensures few in
    rw c.parted.ensures.first (take_few c.cells_in.result c.loop-array.rest.now count)
