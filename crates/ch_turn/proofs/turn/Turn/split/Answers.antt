use Rattle.std.proofs.Common.{◌≡◌, true, sym, ap, ◌∙◌, subst}
use Rattle.ch_turn.specs.Holdings.{has_number, own_entries}
use Rattle.ch_turn.specs.Plays.{Seated}
use Rattle.ch_turn.proofs.Numbers.{has_number-without, own_entries-without}
use Rattle.ch_turn.proofs.Once.{has_number-gone}
use Rattle.ch_turn.proofs.turn.Turn.split.Goals as goal

pub invariant_of-seat-clause-own_held : goal.invariant_of-seat-clause-own_held
invariant_of-seat-clause-own_held g c = let own = c.args.seat.now.own_held in let ne = c.requires.number.1 in
    (own.0, subst (λ (m : Seated g.row.V.Denot g.row.V-Entry.Denot). has_number c.args.seat.now.own m.0.holdings ≡ true) (sym c.cut-other.ensures.cut.0) (has_number-without _ _ _ own.1 (λ e. ne (sym e))))

pub returns-clause-given : goal.returns-clause-given
returns-clause-given g c = ap (λ (m : Seated g.row.V.Denot g.row.V-Entry.Denot). has_number c.args.number m.0.holdings) c.cut-other.ensures.cut.0 ∙ has_number-gone c.args.number c.args.seat.now.seat.me.0.holdings

pub returns-clause-others : goal.returns-clause-others
returns-clause-others g c = let cut = c.cut-other.ensures.cut.0 in λ n h ne. (
  ap (λ (m : Seated g.row.V.Denot g.row.V-Entry.Denot). has_number n m.0.holdings) cut ∙ has_number-without n _ _ h ne,
  ap (λ (m : Seated g.row.V.Denot g.row.V-Entry.Denot). own_entries n m.0.holdings) cut ∙ own_entries-without n c.args.number c.args.seat.now.seat.me.0.holdings ne,
)
