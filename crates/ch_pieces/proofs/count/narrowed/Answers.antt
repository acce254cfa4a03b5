use Rattle.std.proofs.Common.{◌<◌, ◌∙◌, ap, length, subst, sym}
use Rattle.ch_affine.specs.Rows.{IsSystem}
use Rattle.ch_pieces.proofs.Cuts.{narrow_system, rest_inside}
use Rattle.ch_pieces.proofs.count.narrowed.Goals as goal

pub cut-requires : goal.cut-requires
cut-requires c =
    subst (λ z. length c.args.front.now < length z) (sym (c.as_slice-2.ensures ∙ ap (λ z. z.boxes) c.system.view_is))
    (rest_inside c.args.system.now.boxes (length c.args.front.now) c.args.range c.requires.rest)

pub invariant_of-result : goal.invariant_of-result
invariant_of-result c =
    let seen = c.system.view_is in
    narrow_system c.args.system.now c.args.front.now c.args.range c.system.inside.vars c.in_ok-rows.rows c.as_slice.result.now c.in_ok-boxes.boxes c.as_slice-2.result.now
    (subst IsSystem seen c.system.invariant) c.requires.begins c.requires.rest (ap (λ z. z.vars) seen) c.in_ok-rows.ensures (c.as_slice.ensures ∙ ap (λ z. z.rows) seen) c.in_ok-boxes.ensures
    (c.as_slice-2.ensures ∙ ap (λ z. z.boxes) seen)
