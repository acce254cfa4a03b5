use Rattle.std.proofs.Common.{refl, ◌∙◌}
use Rattle.ch_datacopy.proofs.Fitting.{in_offset, moved_made, out_offset}
use Rattle.ch_datacopy.proofs.candidates.moved.Goals as goal
use Rattle.ch_datacopy.proofs.candidates.moved.Goals.{then-k-work, else-k-work}

pub returns : goal.returns
returns c = λ p w.
    moved_made p c.args.work c.args.ours.now c.args.extents.now c.args.k c.args.cells _ c.in_ok-body.body _ _ _ c.in_ok-origin.origin _ c.in_ok-places.places c.width.result c.from.result w refl
    (c.in_ok-body.ensures p w.target w.around w.ins) refl refl refl c.in_ok-origin.ensures c.in_ok-places.ensures c.width.ensures
    (c.from.ensures ∙ elim c.if-k-work.branch [
      | then-k-work b ↦ in_offset p c.args.k c.args.work.ins c.if-k-work.place w.ins b.if-k-work.true b.place-is
      | else-k-work b ↦ out_offset p c.args.k c.args.work.ins c.if-k-work.place w.ins b.if-k-work.false b.place-is
    ])
