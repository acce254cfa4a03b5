use Rattle.std.proofs.Common.{◌≡◌, true, sym, ap, ◌∙◌, subst, List}
use Rattle.ch_turn.specs.Holdings.{has_number, own_entries}
use Rattle.ch_turn.specs.History.{IsPrefix}
use Rattle.ch_turn.specs.Plays.{Seated}
use Rattle.ch_turn.proofs.Numbers.{has_number-append_left, has_number-append_right, own_entries-append_left}
use Rattle.ch_turn.proofs.Once.{own_entries-once}
use Rattle.ch_turn.proofs.Prefixes.{IsPrefix-both}
use Rattle.ch_turn.proofs.turn.Turn.join.Goals as goal

pub invariant_of-seat-clause-own_held : goal.invariant_of-seat-clause-own_held
invariant_of-seat-clause-own_held g c = let own = c.args.seat.now.own_held in
    (own.0, subst (λ (m : Seated g.row.V.Denot g.row.V-Entry.Denot). has_number c.args.seat.now.own m.0.holdings ≡ true) (sym c.gather.ensures.both) (has_number-append_left c.args.seat.now.own c.args.seat.now.seat.me.0.holdings c.args.other.seat.me.0.holdings own.1))

pub returns-clause-prefixes : goal.returns-clause-prefixes
returns-clause-prefixes g c =
    let mine = c.args.seat.now.seat.me.0.seen in
    let theirs = c.args.other.seat.me.0.seen in
    subst (λ (l : List g.row.V-Entry.Denot). IsPrefix mine l × IsPrefix theirs l) (sym (ap (λ (m : Seated g.row.V.Denot g.row.V-Entry.Denot). m.0.seen) c.gather.ensures.both)) (IsPrefix-both mine theirs c.gather.ensures.prefix)

pub returns-clause-ours : goal.returns-clause-ours
returns-clause-ours g c = let both = c.gather.ensures.both in λ n h. (
  ap (λ (m : Seated g.row.V.Denot g.row.V-Entry.Denot). has_number n m.0.holdings) both ∙ has_number-append_left n c.args.seat.now.seat.me.0.holdings c.args.other.seat.me.0.holdings h,
  ap (λ (m : Seated g.row.V.Denot g.row.V-Entry.Denot). own_entries n m.0.holdings) both ∙ own_entries-append_left n c.args.seat.now.seat.me.0.holdings c.args.other.seat.me.0.holdings h,
)

pub returns-clause-theirs : goal.returns-clause-theirs
returns-clause-theirs g c = let both = c.gather.ensures.both in λ n h. (
  ap (λ (m : Seated g.row.V.Denot g.row.V-Entry.Denot). has_number n m.0.holdings) both ∙ has_number-append_right n c.args.seat.now.seat.me.0.holdings c.args.other.seat.me.0.holdings h,
  ap (λ (m : Seated g.row.V.Denot g.row.V-Entry.Denot). own_entries n m.0.holdings) both ∙ own_entries-once n c.args.seat.now.seat.me.0.holdings c.args.other.seat.me.0.holdings c.gather.ensures.once h,
)
