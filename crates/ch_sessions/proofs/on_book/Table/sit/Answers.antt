use Rattle.std.proofs.Common.{◌≡◌, ◌∙◌, List, ◌∷◌, [], ◌++◌, ap, subst, sym}
use Rattle.ch_sessions.specs.Desks.{SeatsAre}
use Rattle.ch_sessions.specs.declared.desk.Desk.{Desk}
use Rattle.ch_sessions.proofs.Knowing.{desk_made}
use Rattle.ch_sessions.proofs.Seated.{one_more}
use Rattle.ch_sessions.proofs.on_book.Table.sit.Goals as goal

pub returns-clause-fits : goal.returns-clause-fits
returns-clause-fits c =
    let t = c.args.self.now in
    let e : Desk = record { seat = c.cut-seat.result; jobs = c.in_ok-jobs.jobs } in
    record {
      about = c.requires.fits.about;
      seats = subst (λ (v : List Desk). SeatsAre t.shared.book c.cut-seat.new.rest v) (sym (c.push_reserved.ensures.items ∙ ap (λ (v : List Desk). v ++ e ∷ []) c.reserve.ensures.items))
          (one_more t.shared.book t.rest c.cut-seat.new.rest t.desks.items e c.requires.fits.seats c.cut-seat.ensures.rest (λ n h d. c.cut-seat.ensures.others n h (λ q. d (q ∙ sym c.cut-seat.ensures.seat.1))) (desk_made t.shared.book c.cut-seat.result t.first.items c.in_ok-jobs.jobs.items c.cut-seat.ensures.seat.0 (c.in_ok-jobs.ensures ∙ c.as_slice.ensures.value) c.requires.fits.known));
      known = c.requires.fits.known;
    }
