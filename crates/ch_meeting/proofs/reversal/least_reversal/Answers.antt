use Rattle.std.proofs.Common.{◌∙◌, ap, sym, subst, length}
use Rattle.std.specs.List.{All}
use Rattle.ch_meeting.specs.Asked.{AreReversalOf, Asks, boxes_of}
use Rattle.ch_meeting.specs.Cases.{IsWithin}
use Rattle.ch_meeting.proofs.Levels.{cells_alike}
use Rattle.ch_meeting.proofs.Reversals.{no_turn, no_way, reversal_ok, turned_comparable}
use Rattle.ch_meeting.proofs.reversal.least_reversal.Goals as goal

pub returns-then-not-are_alike : goal.returns-then-not-are_alike
returns-then-not-are_alike c = λ xs ys k. c.are_alike.ensures.no c.if-not-are_alike.true (cells_alike c.args.accesses.now _ _ k.0.cell)

pub returns-then-not-are_comparable : goal.returns-then-not-are_comparable
returns-then-not-are_comparable c = λ xs ys k. c.are_comparable.ensures.no c.if-not-are_comparable.true (turned_comparable c.args.pieces.now xs ys k.1)

pub returns-then-is_empty : goal.returns-then-is_empty
returns-then-is_empty c =
    no_way c.args.pieces.now.first.now c.args.pieces.now.second.now c.args.pieces.now.new_first.now c.args.pieces.now.new_second.now c.args.accesses.now.first.now c.args.accesses.now.second.now c.requires.pieces.first.whole c.requires.pieces.second.whole c.as_slice-first.result.now c.as_slice-second.result.now c.in_ok-ways.ways c.as_slice-first.ensures c.as_slice-second.ensures c.in_ok-ways.ensures.exact
    (c.is_empty.ensures.0 c.if-is_empty.true)

pub returns-then-is_empty-2 : goal.returns-then-is_empty-2
returns-then-is_empty-2 c =
    no_turn c.args.pieces.now.first.now c.args.pieces.now.second.now c.args.pieces.now.new_first.now c.args.pieces.now.new_second.now c.args.accesses.now.first.now c.args.accesses.now.second.now c.requires.pieces.new_first.whole c.requires.pieces.new_second.whole c.as_slice-new_second.result.now c.as_slice-new_first.result.now c.in_ok-turns.turns c.as_slice-new_second.ensures c.as_slice-new_first.ensures c.in_ok-turns.ensures.exact
    (c.is_empty-2.ensures.0 c.if-is_empty-2.true)

pub least_ordered-requires-clause-within : goal.least_ordered-requires-clause-within
least_ordered-requires-clause-within c =
    subst (All (IsWithin c.args.pieces.now.first.now.levels c.args.pieces.now.second.now.levels)) (sym c.as_slice.ensures)
    (c.in_ok-ways.ensures.within c.args.pieces.now.first.now.levels c.args.pieces.now.second.now.levels (ap length c.as_slice-first.ensures ∙ c.requires.pieces.first.whole.places)
    (ap length c.as_slice-second.ensures ∙ c.requires.pieces.second.whole.places))

pub least_ordered-requires-clause-turned_within : goal.least_ordered-requires-clause-turned_within
least_ordered-requires-clause-turned_within c =
    subst (All (IsWithin c.args.pieces.now.new_second.now.levels c.args.pieces.now.new_first.now.levels)) (sym c.as_slice-2.ensures)
    (c.in_ok-turns.ensures.within c.args.pieces.now.new_second.now.levels c.args.pieces.now.new_first.now.levels (ap length c.as_slice-new_second.ensures ∙ c.requires.pieces.new_second.whole.places)
    (ap length c.as_slice-new_first.ensures ∙ c.requires.pieces.new_first.whole.places))

pub returns : goal.returns
returns c =
    reversal_ok c.args.pieces.now.first.now c.args.pieces.now.second.now c.args.pieces.now.new_first.now c.args.pieces.now.new_second.now c.args.accesses.now.first.now c.args.accesses.now.second.now c.requires.pieces.first.whole c.requires.pieces.second.whole c.requires.pieces.new_first.whole c.requires.pieces.new_second.whole
    c.as_slice-first.result.now c.as_slice-second.result.now c.as_slice-new_second.result.now c.as_slice-new_first.result.now c.in_ok-ways.ways c.as_slice.result.now c.in_ok-turns.turns c.as_slice-2.result.now
    c.as_slice-first.ensures c.as_slice-second.ensures c.as_slice-new_second.ensures c.as_slice-new_first.ensures c.as_slice.ensures c.as_slice-2.ensures c.in_ok-ways.ensures.exact c.in_ok-turns.ensures.exact
    c.least_ordered.result c.least_ordered.ensures
