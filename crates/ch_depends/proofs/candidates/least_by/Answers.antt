use Rattle.ch_depends.proofs.Points.{first_in, found_candidate, has_front, second_in}
use Rattle.ch_depends.proofs.candidates.least_by.Goals as goal

pub split_at-requires : goal.split_at-requires
split_at-requires c =
    has_front c.args.pieces.now.first.now c.args.pieces.now.second.now c.args.pieces.now.new_first.now c.args.pieces.now.new_second.now c.args.accesses.now.first.now c.args.accesses.now.second.now c.requires.pieces.first.whole c.requires.pieces.second.whole c.in_ok-least_reversal.field-0 c.in-Some.point
    c.as_slice.result.now c.in_ok-least_reversal.ensures c.in-Some.is c.as_slice.ensures

pub candidate_at-requires-clause-xs : goal.candidate_at-requires-clause-xs
candidate_at-requires-clause-xs c =
    first_in c.args.pieces.now.first.now c.args.pieces.now.second.now c.args.pieces.now.new_first.now c.args.pieces.now.new_second.now c.args.accesses.now.first.now c.args.accesses.now.second.now c.requires.pieces.first.whole c.requires.pieces.second.whole c.in_ok-least_reversal.field-0 c.in-Some.point
    c.as_slice.result.now c.in_ok-least_reversal.ensures c.in-Some.is c.as_slice.ensures c.split_at.result.0.now c.split_at.ensures.front

pub candidate_at-requires-clause-ys : goal.candidate_at-requires-clause-ys
candidate_at-requires-clause-ys c =
    second_in c.args.pieces.now.first.now c.args.pieces.now.second.now c.args.pieces.now.new_first.now c.args.pieces.now.new_second.now c.args.accesses.now.first.now c.args.accesses.now.second.now c.requires.pieces.first.whole c.requires.pieces.second.whole c.in_ok-least_reversal.field-0 c.in-Some.point
    c.as_slice.result.now c.in_ok-least_reversal.ensures c.in-Some.is c.as_slice.ensures c.split_at.result.1.now c.split_at.ensures.back

pub returns-in_ok-candidate_at-in-Some : goal.returns-in_ok-candidate_at-in-Some
returns-in_ok-candidate_at-in-Some c =
    found_candidate c.args.pieces.now.first.now c.args.pieces.now.second.now c.args.pieces.now.new_first.now c.args.pieces.now.new_second.now c.args.accesses.now.first.now c.args.accesses.now.second.now c.requires.pieces.first.whole c.requires.pieces.second.whole c.in_ok-least_reversal.field-0 c.in-Some.point
    c.as_slice.result.now c.in_ok-least_reversal.ensures c.in-Some.is c.as_slice.ensures c.split_at.result.0.now c.split_at.result.1.now c.in_ok-candidate_at-in-Some.field-0
    c.split_at.ensures.front c.split_at.ensures.back c.in_ok-candidate_at-in-Some.ensures.first c.in_ok-candidate_at-in-Some.ensures.second
