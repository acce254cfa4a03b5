use Rattle.std.proofs.Common.{◌<◌, ap, ◌∙◌, subst, length, get_or, arith}
use Rattle.ch_affine.specs.Form.{Form}
use Rattle.ch_datacopy.specs.Cells.{kept_row}
use Rattle.ch_datacopy.specs.declared.cells.Cells.{Cells}
use Rattle.ch_datacopy.proofs.Steps.{mapped_end, mapped_more}
use Rattle.ch_datacopy.proofs.widths.push_firsts.Goals as goal

pub kept_row-requires-clause-first : goal.kept_row-requires-clause-first
kept_row-requires-clause-first c =
    let inside = c.as_slice-row-items.ensures ∙ ap (λ (s : Cells). s.system.rows) c.first.view_is in
    let here = subst (λ fs. c.loop-row.row-index < length fs) inside c.loop-row-test.true in
    let long = ap (λ (g : Form). length g.coefs) (c.row-item.is ∙ ap (λ fs. get_or fs c.loop-row.row-index c.row-item.result) inside) ∙ c.requires.long c.loop-row.row-index c.row-item.result here in
    let l = c.requires.levels in
    omega (arith, long, l)

pub kept_row-requires-clause-room : goal.kept_row-requires-clause-room
kept_row-requires-clause-room c =
    let inside = c.as_slice-row-items.ensures ∙ ap (λ (s : Cells). s.system.rows) c.first.view_is in
    let here = subst (λ fs. c.loop-row.row-index < length fs) inside c.loop-row-test.true in
    let long = ap (λ (g : Form). length g.coefs) (c.row-item.is ∙ ap (λ fs. get_or fs c.loop-row.row-index c.row-item.result) inside) ∙ c.requires.long c.loop-row.row-index c.row-item.result here in
    let l = c.requires.room in
    omega (arith, long, l)

pub loop-row-preserved : goal.loop-row-preserved
loop-row-preserved c =
    mapped_more (kept_row c.args.levels c.args.cells c.args.hidden) c.args.first.now.system.rows c.as_slice-row-items.result.now c.loop-row.row-index c.row-item.result c.args.rows.now c.loop-row.rows c.push.new.self
    c.in_ok-kept_row.field-0 (c.as_slice-row-items.ensures ∙ ap (λ (s : Cells). s.system.rows) c.first.view_is) c.loop-row-test.true c.row-item.is c.loop-row.invariant c.in_ok-kept_row.ensures c.in_ok-push.ensures.ok

pub returns : goal.returns
returns c =
    mapped_end (kept_row c.args.levels c.args.cells c.args.hidden) c.args.first.now.system.rows c.as_slice-row-items.result.now c.loop-row.row-index c.args.rows.now c.loop-row.rows
    (c.as_slice-row-items.ensures ∙ ap (λ (s : Cells). s.system.rows) c.first.view_is) c.loop-row-test.false c.loop-row.invariant
