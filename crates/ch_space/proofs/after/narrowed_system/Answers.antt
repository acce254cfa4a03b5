use Rattle.std.proofs.Common.{◌∙◌}
use Rattle.ch_affine.specs.Rows.{system}
use Rattle.ch_space.proofs.Narrowed.{narrow_system}
use Rattle.ch_space.proofs.after.narrowed_system.Goals as goal

pub invariant_of-result : goal.invariant_of-result
invariant_of-result c =
    narrow_system (system c.system.inside.vars c.system.inside.rows c.system.inside.boxes) c.in_ok-copied_forms.field-0 c.in-Some.boxes c.args.front.now c.system.invariant
    (c.in_ok-copied_forms.ensures ∙ c.as_slice-2.ensures) (rw (c.in-Some.is, c.as_slice.ensures) at c.in_ok-boxes.ensures)
