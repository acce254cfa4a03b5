use Rattle.std.proofs.Common.{refl, ◌∙◌}
use Rattle.ch_datacopy.proofs.Fitting.{kept_made}
use Rattle.ch_datacopy.proofs.candidates.kept.Goals as goal

pub returns : goal.returns
returns c = λ p w n.
    kept_made p c.args.work c.args.ours.now c.args.extents.now c.args.piece.now c.args.count c.share-is_ours.result _ c.in_ok-kept_body.field-0 _ _ c.in_ok-copied.field-0
    c.in_ok-copied_forms.field-0 _ c.in_ok-wide.wide c.as_slice-places.result.now (record { width = c.width.result; offset = c.from.result }) w n
    c.as_slice-places.ensures c.share-is_ours.ensures (c.in_ok-kept_body.ensures p w.target) refl refl refl c.in_ok-copied.ensures
    (c.in_ok-copied_forms.ensures ∙ c.as_slice.ensures) c.in_ok-wide.ensures c.width.ensures c.from.ensures
