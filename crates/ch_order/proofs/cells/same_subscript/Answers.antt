use Rattle.std.proofs.Common.{ap₂, ◌∙◌}
use Rattle.std.specs.Ordering.{int_eq}
use Rattle.ch_order.proofs.Equality.{int_eq_by}
use Rattle.ch_order.proofs.cells.same_subscript.Goals as goal

pub returns : goal.returns
returns c = int_eq_by _ _ _ c.same_number.ensures.0 c.same_number.ensures.1 ∙ ap₂ int_eq c.subscript.ensures.value c.subscript-2.ensures.value
