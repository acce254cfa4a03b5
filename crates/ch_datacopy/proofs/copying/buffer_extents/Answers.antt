use Rattle.std.proofs.Common.{◌-◌, ◌<◌, ◌≤◌, ◌^◌, sym, ap, ◌∙◌, subst, nat_le, length, Some, None, arith, rules}
use Rattle.std.specs.Bool.{IsTrue}
use Rattle.std.specs.List.{list_all}
use Rattle.std.proofs.lemmas.Grind.{common_steps}
use Rattle.ch_datacopy.specs.Causes.{above, most_cells}
use Rattle.ch_datacopy.specs.Widths.{AreWidths}
use Rattle.ch_datacopy.specs.Moved.{dimensions}
use Rattle.ch_datacopy.proofs.Judging.{cells_few, dimensions_is, last_is, widths_some}
use Rattle.ch_nest.specs.Arrays.{cells_in}
use Rattle.ch_datacopy.proofs.copying.buffer_extents.Goals as goal

pub too_wide-requires-clause-few : goal.too_wide-requires-clause-few
too_wide-requires-clause-few c =
    let some : 0 < length c.args.moves.now = first_of (search rules, grind (arith, common_steps)) in
    let d = dimensions_is c.args.around c.args.moves.now c.index-moves-0.result some c.index-moves-0.is in
    let n = c.in_ok-extents.ensures.widths.count in
    let f = c.requires.few in
    subst (λ z. cells_in z ≤ 2 ^ 100) (sym c.as_slice.ensures) (cells_few c.in_ok-extents.extents (omega (arith, d, n, f)) c.in_ok-extents.ensures.small)

pub too_wide-requires-clause-some : goal.too_wide-requires-clause-some
too_wide-requires-clause-some c =
    subst (λ z. IsTrue (list_all (nat_le 1) z)) (sym c.as_slice.ensures)
    (widths_some c.args.around (c.index-moves-0.result.levels - c.args.around) c.args.moves.now c.in_ok-extents.extents c.in_ok-extents.ensures.widths)

pub returns-in-Some-too_wide-clause-cause : goal.returns-in-Some-too_wide-clause-cause
returns-in-Some-too_wide-clause-cause c =
    let some : 0 < length c.args.moves.now = first_of (search rules, grind (arith, common_steps)) in
    let d = dimensions_is c.args.around c.args.moves.now c.index-moves-0.result some c.index-moves-0.is in
    let is = c.too_many.ensures in
    let sizes = subst (λ n. AreWidths c.args.around n c.args.moves.now c.in_ok-extents.extents) (sym d) c.in_ok-extents.ensures.widths in
    λ es a. last_is c.args.pieces.now c.args.moves.now c.index-moves-0.result some c.index-moves-0.is c.too_many.result is c.in_default.is c.args.around (dimensions c.args.around c.args.moves.now) c.in_ok-extents.extents es
    sizes a (Some c.in-Some-too_wide.shape) (c.in-Some-too_wide.ensures ∙ ap (λ z. above 9 most_cells (cells_in z)) c.as_slice.ensures)

pub returns-clause-cause : goal.returns-clause-cause
returns-clause-cause c =
    let some : 0 < length c.args.moves.now = first_of (search rules, grind (arith, common_steps)) in
    let d = dimensions_is c.args.around c.args.moves.now c.index-moves-0.result some c.index-moves-0.is in
    let is = c.too_many.ensures in
    let sizes = subst (λ n. AreWidths c.args.around n c.args.moves.now c.in_ok-extents.extents) (sym d) c.in_ok-extents.ensures.widths in
    λ es a. last_is c.args.pieces.now c.args.moves.now c.index-moves-0.result some c.index-moves-0.is c.too_many.result is c.in_default.is c.args.around (dimensions c.args.around c.args.moves.now) c.in_ok-extents.extents es
    sizes a None (sym c.in_default-too_wide.is ∙ c.too_wide.ensures ∙ ap (λ z. above 9 most_cells (cells_in z)) c.as_slice.ensures)
