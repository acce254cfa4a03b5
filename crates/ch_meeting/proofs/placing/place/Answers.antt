use Rattle.std.proofs.Common.{◌≡◌, ◌<◌, ◌∙◌, ap, subst, length, get_or}
use Rattle.ch_meeting.proofs.Steps.{hold_more, levels_same}
use Rattle.ch_meeting.proofs.placing.place.Goals as goal

pub loop-form-preserved : goal.loop-form-preserved
loop-form-preserved c =
    let rows = c.as_slice-rows.ensures ∙ ap (λ p. p.system.rows) c.piece.view_is in
    hold_more c.args.piece.now c.args.draft.now c.loop-form.draft c.at_least_zero.new.self c.args.levels c.args.hidden c.loop-form.form-index c.form-item.result c.form-item.result c.in_ok-placed.placed
    c.requires.whole c.known.ensures c.requires.after c.requires.inside (subst (λ xs. c.loop-form.form-index < length xs) rows c.loop-form-test.true)
    (subst (λ xs. c.form-item.result ≡ get_or xs c.loop-form.form-index c.form-item.result) rows c.form-item.is)
    (levels_same c.form-item.result c.in_ok-placed.placed _ c.args.piece.now.levels c.args.levels c.args.hidden (ap (λ p. p.levels) c.piece.view_is) c.in_ok-placed.ensures.value) c.loop-form.invariant c.in_ok-at_least_zero.ensures
