use Rattle.std.proofs.Common.{◌∙◌, ap, refl, sym, subst, length}
use Rattle.std.specs.List.{All}
use Rattle.ch_meeting.specs.Cases.{IsWithin}
use Rattle.std.proofs.lemmas.Bool.{both_ways}
use Rattle.ch_meeting.proofs.Levels.{cells_alike, levels_ok}
use Rattle.ch_meeting.proofs.meeting.meets_at.Goals as goal

pub meets_among-requires-clause-within : goal.meets_among-requires-clause-within
meets_among-requires-clause-within c =
    subst (All (IsWithin c.args.first.now.levels c.args.second.now.levels)) (sym c.as_slice-3.ensures)
    (c.in_ok-ways.ensures.within c.args.first.now.levels c.args.second.now.levels (ap length c.as_slice.ensures ∙ c.requires.first.whole.places)
    (ap length c.as_slice-2.ensures ∙ c.requires.second.whole.places))

pub returns : goal.returns
returns c =
    levels_ok c.args.first.now c.args.second.now c.args.accesses.now.first.now c.args.accesses.now.second.now c.args.level c.requires.first.whole c.requires.second.whole c.as_slice.result.now c.as_slice-2.result.now
    c.in_ok-ways.ways c.as_slice-3.result.now c.as_slice.ensures c.as_slice-2.ensures c.as_slice-3.ensures c.in_ok-ways.ensures.exact c.in_ok-ways.ensures.levels c.meets_among.result c.meets_among.ensures

pub returns-then-not-are_alike : goal.returns-then-not-are_alike
returns-then-not-are_alike c = (
  λ t. absurd (both_ways _ refl t),
  λ m. absurd (c.are_alike.ensures.no c.if-not-are_alike.true (cells_alike c.args.accesses.now _ _ m.meeting.cell)),
)
