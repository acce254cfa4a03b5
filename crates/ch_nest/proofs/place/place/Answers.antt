use Rattle.std.proofs.Common.{arith}
use Rattle.ch_nest.proofs.Places.{reached}
use Rattle.ch_nest.proofs.place.place.Goals as goal

pub total-requires-clause-few : goal.total-requires-clause-few
total-requires-clause-few c =
    let r = reached c.args.arrays.now c.args.access.now c.args.point.now c.index-arrays-k.result c.requires.arrays c.requires.fits c.requires.inside c.index-arrays-k.is in
    omega (arith, r.room, r.few)

pub total-requires-clause-arrays : goal.total-requires-clause-arrays
total-requires-clause-arrays c = (reached c.args.arrays.now c.args.access.now c.args.point.now c.index-arrays-k.result c.requires.arrays c.requires.fits c.requires.inside c.index-arrays-k.is).before

pub row_major-requires-clause-few : goal.row_major-requires-clause-few
row_major-requires-clause-few c =
    let r = reached c.args.arrays.now c.args.access.now c.args.point.now c.index-arrays-k.result c.requires.arrays c.requires.fits c.requires.inside c.index-arrays-k.is in
    rw (c.as_slice-extents.ensures, ← c.index-arrays-k.is) (omega (arith, r.room, r.few))

pub row_major-requires-clause-some : goal.row_major-requires-clause-some
row_major-requires-clause-some c =
    rw (c.as_slice-extents.ensures, ← c.index-arrays-k.is) (reached c.args.arrays.now c.args.access.now c.args.point.now c.index-arrays-k.result c.requires.arrays c.requires.fits c.requires.inside c.index-arrays-k.is).some

pub row_major-requires-clause-within : goal.row_major-requires-clause-within
row_major-requires-clause-within c =
    rw (c.as_slice-extents.ensures, ← c.index-arrays-k.is, c.as_slice.ensures) (reached c.args.arrays.now c.args.access.now c.args.point.now c.index-arrays-k.result c.requires.arrays c.requires.fits c.requires.inside c.index-arrays-k.is).within_it

pub overflow_add-result : goal.overflow_add-result
overflow_add-result c =
    let r = reached c.args.arrays.now c.args.access.now c.args.point.now c.index-arrays-k.result c.requires.arrays c.requires.fits c.requires.inside c.index-arrays-k.is in
    let w = rw (c.as_slice-extents.ensures, ← c.index-arrays-k.is) at c.row_major.ensures.within in
    omega (arith, r.room, r.few, w, c.total.ensures)

pub returns-clause-value : goal.returns-clause-value
returns-clause-value c =
    let r = reached c.args.arrays.now c.args.access.now c.args.point.now c.index-arrays-k.result c.requires.arrays c.requires.fits c.requires.inside c.index-arrays-k.is in
    let m = rw (c.as_slice-extents.ensures, ← c.index-arrays-k.is, c.as_slice.ensures) at c.row_major.ensures.value in
    rw (c.total.ensures, m) r.placed

pub returns-clause-within : goal.returns-clause-within
returns-clause-within c =
    let r = reached c.args.arrays.now c.args.access.now c.args.point.now c.index-arrays-k.result c.requires.arrays c.requires.fits c.requires.inside c.index-arrays-k.is in
    let w = rw (c.as_slice-extents.ensures, ← c.index-arrays-k.is) at c.row_major.ensures.within in
    omega (arith, r.room, w, c.total.ensures)
