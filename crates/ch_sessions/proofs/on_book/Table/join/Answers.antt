use Rattle.std.proofs.Common.{◌≡◌, List, subst, sym}
use Rattle.ch_sessions.specs.Desks.{SeatsAre}
use Rattle.ch_sessions.specs.declared.desk.Desk.{Desk}
use Rattle.ch_sessions.proofs.Seated.{one_less}
use Rattle.ch_sessions.proofs.on_book.Table.join.Goals as goal

pub returns : goal.returns
returns c =
    let t = c.args.self.now in
    record {
      about = c.requires.about;
      seats = subst (λ (v : List Desk). SeatsAre t.shared.book c.take_in.new.rest v) (sym c.remove-seat.ensures.items)
          (one_less t.shared.book t.rest c.take_in.new.rest t.desks.items c.in-Some.place c.remove-seat.result c.requires.seats c.in-Some.ensures.some c.remove-seat.ensures.value c.take_in.ensures.rest c.take_in.ensures.ours c.take_in.ensures.theirs);
      known = c.requires.known;
    }
