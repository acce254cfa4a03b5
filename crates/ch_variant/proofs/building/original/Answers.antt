use Rattle.ch_variant.proofs.Making.{built_plain}
use Rattle.ch_variant.proofs.building.original.Goals as goal

pub invariant_of-result : goal.invariant_of-result
invariant_of-result c =
    built_plain c.args.subject c.of.result.value c.args.nest.now c.in_ok-unit.unit c.in_ok-space.space c.of.ensures c.in_ok-space.ensures c.requires c.known.ensures
    c.in_ok-unit.ensures.trace c.in_ok-unit.ensures.arrays c.in_ok-unit.ensures.temps
