use Rattle.ch_costs.proofs.Units.{unit_inside}
use Rattle.ch_costs.proofs.costs.costed.Goals as goal

pub told-requires-clause-inside : goal.told-requires-clause-inside
told-requires-clause-inside c =
    unit_inside c.args.program.now.nest c.args.space.now c.in_ok-unit.unit c.requires.program.sound c.requires.keeps
    c.in_ok-unit.ensures.trace c.in_ok-unit.ensures.arrays c.in_ok-unit.ensures.temps
