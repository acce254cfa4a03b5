use Rattle.std.proofs.Common.{◌≡◌, arith, length, pos}
use Rattle.std.specs.List.{list_all}
use Rattle.std.proofs.lemmas.Bool.{and_parts}
use Rattle.ch_affine.specs.Combined.{combined}
use Rattle.ch_nest.specs.Fast.{IsFlatPlace}
use Rattle.ch_nest.specs.Shape.{has_dimensions, sub_fits}
use Rattle.ch_nest.proofs.Flattens.{before_few, before_fit, ok_maps, placed}
use Rattle.ch_nest.proofs.Places.{dimensions_exist}
use Rattle.ch_nest.proofs.plan.place_form.Goals as goal

pub total-requires-clause-few : goal.total-requires-clause-few
total-requires-clause-few c = omega (arith, before_few c.args.arrays.now c.args.access.now.array c.requires.arrays)

pub total-requires-clause-arrays : goal.total-requires-clause-arrays
total-requires-clause-arrays c = before_fit c.args.arrays.now c.args.access.now.array c.requires.arrays

pub plain-requires-clause-constant : goal.plain-requires-clause-constant
plain-requires-clause-constant c = omega (arith, before_few c.args.arrays.now c.args.access.now.array c.requires.arrays, c.total.ensures)

pub bounds-arrays-k : goal.bounds-arrays-k
bounds-arrays-k c = dimensions_exist c.args.arrays.now c.args.access.now.array (length c.args.access.now.subs)
    ((and_parts (has_dimensions c.args.arrays.now c.args.access.now.array (length c.args.access.now.subs)) (list_all (sub_fits c.args.depth) c.args.access.now.subs) c.requires.fits).0)

pub returns : goal.returns
returns c =
    let extents = rw (← c.index-arrays-k.is) at c.as_slice-extents.ensures in
    ok_maps c.combine.result (λ f. f ≡ combined (pos 1) c.in_ok-base.base (pos 1) c.in_ok-within.within) (IsFlatPlace c.args.arrays.now c.args.depth c.args.access.now)
    (λ f e. placed c.args.arrays.now c.args.depth c.args.access.now c.index-arrays-k.result c.total.result c.as_slice-extents.result.now c.as_slice.result.now
    c.in_ok-base.base c.in_ok-start.start c.in_ok-within.within f c.requires.arrays c.requires.fits c.requires.depth c.index-arrays-k.is c.total.ensures
    c.in_ok-base.ensures c.in_ok-start.ensures c.in_ok-within.ensures.same extents c.as_slice.ensures c.in_ok-within.ensures.value e)
    c.combine.ensures.value
