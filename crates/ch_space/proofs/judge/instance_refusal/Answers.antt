use Rattle.std.proofs.Common.{◌∙◌, ap, length}
use Rattle.ch_space.proofs.AccessCounts.{instance_few, items_few}
use Rattle.ch_space.proofs.judge.instance_refusal.Goals as goal

pub accesses_before-requires : goal.accesses_before-requires
accesses_before-requires c =
    record { few = items_few c.args.nest.now c.as_slice.result.now (c.as_slice.ensures ∙ ap (λ n. n.items) c.nest.view_is) c.known.ensures }

pub first_leaving-requires-clause-few : goal.first_leaving-requires-clause-few
first_leaving-requires-clause-few c =
    instance_few c.args.nest.now c.as_slice.result.now c.args.label c.in_ok-before.before (length c.args.point.now) c.args.body.now
    (c.as_slice.ensures ∙ ap (λ n. n.items) c.nest.view_is) c.known.ensures c.requires.fits c.in_ok-before.ensures
