use Rattle.std.proofs.Common.{◌<◌, ◌∙◌, ap, subst, get_or, length}
use Rattle.ch_moved.proofs.Over.{over_more}
use Rattle.ch_moved.proofs.ties.push_over.Goals as goal

pub loop-row-preserved : goal.loop-row-preserved
loop-row-preserved c =
    let k = c.loop-row.row-index in
    let d = c.row-item.result in
    let v = c.old.view_is in
    let inside = c.as_slice-row-items.ensures in
    let rows = inside ∙ ap (λ s. s.rows) v in
    let here = subst (λ fs. k < length fs) inside c.loop-row-test.true in
    let long = ap (λ f. length f.coefs) (c.row-item.is ∙ ap (λ fs. get_or fs k d) inside) ∙ c.old.invariant.rows k d here ∙ ap (λ s. s.vars) v in
    over_more c.args.rows.now c.args.variables c.args.old.now.vars c.args.forms.now c.args.old.now.rows c.loop-row.rows c.push.new.self k d c.in_ok-row_over.field-0
    (subst (λ fs. k < length fs) rows c.loop-row-test.true) (c.row-item.is ∙ ap (λ fs. get_or fs k d) rows) long c.in_ok-row_over.ensures c.loop-row.invariant c.in_ok-push.ensures.ok
