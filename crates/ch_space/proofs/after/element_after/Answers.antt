use Rattle.ch_space.proofs.NextElements.{element_none, element_some}
use Rattle.ch_space.proofs.after.element_after.Goals as goal

pub returns-in-None : goal.returns-in-None
returns-in-None c = element_none c.args.piece.now c.args.vector.now c.as_slice.result.now c.in_ok-least_after.field-0 c.as_slice.ensures c.in-None.is c.in_ok-least_after.ensures

pub returns-in_ok-element-in-Some : goal.returns-in_ok-element-in-Some
returns-in_ok-element-in-Some c =
    element_some c.args.piece.now c.args.vector.now c.as_slice.result.now c.in_ok-least_after.field-0 c.in-Some.instance c.as_slice-in-Some.result.now c.in_ok-element-in-Some.element c.requires.whole
    c.as_slice.ensures c.in-Some.is c.as_slice-in-Some.ensures c.in_ok-element-in-Some.ensures c.in_ok-least_after.ensures
