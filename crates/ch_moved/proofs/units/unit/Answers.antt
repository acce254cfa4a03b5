use Rattle.std.proofs.Common.{ap, ◌∙◌, ◌++◌}
use Rattle.ch_moved.proofs.UnitForms.{unit_is_small}
use Rattle.ch_space.specs.Built.{unit}
use Rattle.ch_moved.proofs.units.unit.Goals as goal

pub invariant_of-result : goal.invariant_of-result
invariant_of-result c =
    unit_is_small c.args.before c.args.after c.push_unit.new.numbers c.requires
    (c.in_ok-push_unit.ensures ∙ ap (λ t. t ++ (unit c.args.before c.args.after).coefs) c.new-coefs.ensures)
