use Rattle.std.proofs.Common.{◌∙◌, ◌-◌, ap, map, subst}
use Rattle.ch_affine.specs.Rows.{IsSystem}
use Rattle.ch_moved.specs.Substituted.{substituted}
use Rattle.ch_moved.proofs.NewPiece.{piece_reindexed}
use Rattle.ch_moved.proofs.reindex.reindexed.Goals as goal

pub returns : goal.returns
returns c =
    let s : IsSystem c.in_ok-system.system = subst IsSystem c.system.view_is c.system.invariant in
    piece_reindexed c.args.piece.now c.args.forms.now c.args.boxes c.args.extra.now c.args.places c.in_ok-body.body c.len-levels.result _ c.in_ok-system.system c.in_ok-origin.origin c.requires.whole
    c.requires.many c.requires.long c.requires.places s c.in_ok-system.ensures c.in_ok-body.ensures c.len-levels.ensures (ap (λ t. t.vars - c.len-levels.result) c.system.view_is)
    (c.in_ok-origin.ensures ∙ ap (map (substituted c.len-levels.result c.args.forms.now)) c.as_slice.ensures)
