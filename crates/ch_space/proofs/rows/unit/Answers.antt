use Rattle.std.proofs.Common.{◌∙◌, ap, ◌++◌}
use Rattle.ch_space.specs.Built.{zeros}
use Rattle.ch_space.proofs.Builds.{unit_small}
use Rattle.ch_space.proofs.rows.unit.Goals as goal

pub invariant_of-result : goal.invariant_of-result
invariant_of-result c =
    unit_small c.args.before c.args.after c.push_zeros.new.numbers c.push.new.self _ c.requires (c.in_ok-push_zeros.ensures ∙ ap (λ t. t ++ zeros c.args.before) c.in_ok-coefs.ensures) c.in_ok-push.ensures.ok c.in_ok-push_zeros-2.ensures
