use Rattle.std.proofs.Common.{ap, ◌∙◌, List, drop, length}
use Rattle.std.proofs.Math.Seq.{drop-append_seam}
use Rattle.ch_turn.specs.Holdings.{has_number, own_entries}
use Rattle.ch_turn.specs.Views.{list_taken}
use Rattle.ch_turn.specs.declared.view.View.{View}
use Rattle.ch_turn.proofs.Numbers.{has_number-with_entries, own_entries-with_own, own_entries-with_other}
use Rattle.ch_turn.proofs.turn.Turn.leave.Goals as goal

pub invariant_of-seat-clause-own_held : goal.invariant_of-seat-clause-own_held
invariant_of-seat-clause-own_held g c = let own = c.args.seat.now.own_held in
    (own.0, ap (λ (v : View g.row.V-Entry.Denot). has_number c.args.seat.now.own v.holdings) c.give_back.ensures.gave ∙ (has_number-with_entries g.V.Listed.by _ c.args.seat.now.own c.args.seat.now.seat.me.0.holdings ∙ own.1))

pub returns-clause-own : goal.returns-clause-own
returns-clause-own g c =
    let n = c.args.seat.now.own in
    let more = c.requires.grows.0 in
    let before : List g.row.V-Entry.Denot = list_taken c.args.seat.now.seat.me.0.stage in
    let added = ap (drop (length before)) c.requires.grows.1 ∙ drop-append_seam before more in
    ap (λ (v : View g.row.V-Entry.Denot). own_entries n v.holdings) c.give_back.ensures.gave
    ∙ own_entries-with_own g.V.Listed.by n _ more added c.args.seat.now.seat.me.0.holdings c.args.seat.now.own_held.1 c.requires.grows.2

pub returns-clause-others : goal.returns-clause-others
returns-clause-others g c =
    let more = c.requires.grows.0 in
    let before : List g.row.V-Entry.Denot = list_taken c.args.seat.now.seat.me.0.stage in
    let added = ap (drop (length before)) c.requires.grows.1 ∙ drop-append_seam before more in
    let after = c.give_back.ensures.gave in
    λ n h. (
      ap (λ (v : View g.row.V-Entry.Denot). has_number n v.holdings) after ∙ (has_number-with_entries g.V.Listed.by _ n c.args.seat.now.seat.me.0.holdings ∙ h),
      (λ ne. ap (λ (v : View g.row.V-Entry.Denot). own_entries n v.holdings) after ∙ own_entries-with_other g.V.Listed.by c.args.seat.now.own n _ more added c.args.seat.now.seat.me.0.holdings h ne c.requires.grows.2),
    )
