use Rattle.std.proofs.Common.{rules, SFits, w64}
use Rattle.std.specs.Int.{w128}
use Rattle.std.proofs.lemmas.Int.{fits_signed_from_abs, to_z-of_z}
use Rattle.ch_space.proofs.Subscripted.{sub_small}
use Rattle.ch_space.proofs.accesses.subscript_at.Goals as goal

pub overflow_cast-result : goal.overflow_cast-result
overflow_cast-result c =
    let wide : SFits w128 c.sub_value.result = search rules in
    let small = sub_small c.args.point.now c.args.sub.now c.requires.near c.requires.fits in
    simp to_z-of_z (fits_signed_from_abs w64 c.sub_value.result (rw c.sub_value.ensures small))

pub returns : goal.returns
returns c =
    let wide : SFits w128 c.sub_value.result = search rules in
    let small = sub_small c.args.point.now c.args.sub.now c.requires.near c.requires.fits in
    let narrow : SFits w64 c.sub_value.result = fits_signed_from_abs w64 c.sub_value.result (rw c.sub_value.ensures small) in
    simp to_z-of_z c.sub_value.ensures
