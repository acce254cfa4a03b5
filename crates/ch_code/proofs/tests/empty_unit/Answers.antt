use Rattle.ch_code.proofs.EmptyUnits.{empty_is_unit}
use Rattle.ch_code.proofs.tests.empty_unit.Goals as goal

pub invariant_of-result : goal.invariant_of-result
invariant_of-result c = empty_is_unit c.new.result c.new-2.result c.new-3.result c.new.ensures c.new-2.ensures c.new-3.ensures
