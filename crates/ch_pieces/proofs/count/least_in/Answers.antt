use Rattle.std.proofs.Common.{rules, SFits, w64, length, pos, slice_index_or}
use Rattle.std.proofs.lemmas.Int.{to_z-of_z}
use Rattle.ch_pieces.proofs.Cuts.{least_bound, least_none, least_some}
use Rattle.ch_pieces.proofs.count.least_in.Goals as goal

pub returns-in-None : goal.returns-in-None
returns-in-None c =
    least_none c.args.system.now c.args.front.now c.args.range c.in_ok-narrow.narrow c.in_ok-least_point.field-0 c.requires.begins c.requires.rest c.in_ok-narrow.ensures
    c.in_ok-least_point.ensures c.in-None.is

pub bounds-as_slice-front : goal.bounds-as_slice-front
bounds-as_slice-front c =
    least_bound c.args.system.now c.args.front.now c.args.range c.in_ok-narrow.narrow c.in_ok-least_point.field-0 c.requires.begins c.requires.rest c.in_ok-narrow.ensures
    c.in_ok-least_point.ensures c.in-Some.point c.in-Some.is c.as_slice.result.now c.as_slice.ensures

pub returns : goal.returns
returns c =
    let fits : SFits w64 (slice_index_or c.as_slice.result.now (length c.args.front.now) (pos 0)) = search rules in
    least_some c.args.system.now c.args.front.now c.args.range c.in_ok-narrow.narrow c.in_ok-least_point.field-0 c.requires.begins c.requires.rest c.in_ok-narrow.ensures
    c.in_ok-least_point.ensures c.in-Some.point c.in-Some.is c.as_slice.result.now _ c.as_slice.ensures
    (to_z-of_z w64 (slice_index_or c.as_slice.result.now (length c.args.front.now) (pos 0)) fits)
