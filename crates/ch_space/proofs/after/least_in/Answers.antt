use Rattle.std.proofs.Common.{◌∙◌, sym}
use Rattle.ch_space.proofs.Narrowed.{empty_least, least_bound, none_least, some_least}
use Rattle.ch_space.proofs.after.least_in.Goals as goal

pub returns-in_default : goal.returns-in_default
returns-in_default c = empty_least c.args.piece.now c.args.front.now c.requires.whole c.requires.few c.in_ok-system.field-0 c.in_default.is c.in_ok-system.ensures

pub returns-in-None : goal.returns-in-None
returns-in-None c =
    none_least c.args.piece.now c.args.front.now c.requires.whole c.requires.few c.in_ok-system.field-0 c.in-Some.system c.in-Some.is c.in_ok-system.ensures (sym c.in_ok-least_point.ensures ∙ c.in-None.is)

pub slice_bounds-from_slice-end : goal.slice_bounds-from_slice-end
slice_bounds-from_slice-end c =
    least_bound c.args.piece.now c.args.front.now c.requires.whole c.requires.few c.in_ok-system.field-0 c.in-Some.system c.in-Some.is c.in_ok-system.ensures c.in-Some-2.point c.as_slice.result.now
    (sym c.in_ok-least_point.ensures ∙ c.in-Some-2.is) c.as_slice.ensures

pub returns : goal.returns
returns c =
    some_least c.args.piece.now c.args.front.now c.requires.whole c.requires.few c.in_ok-system.field-0 c.in-Some.system c.in-Some.is c.in_ok-system.ensures c.in-Some-2.point c.as_slice.result.now
    c.in_ok-instance-in-Some-2.instance (sym c.in_ok-least_point.ensures ∙ c.in-Some-2.is) c.as_slice.ensures c.in_ok-instance-in-Some-2.ensures
