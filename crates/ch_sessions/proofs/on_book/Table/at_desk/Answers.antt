use Rattle.std.proofs.Common.{◌<◌, ℕ, Option, IfSome, length, subst}
use Rattle.ch_sessions.proofs.Seated.{desk_at, one_changed}
use Rattle.ch_sessions.proofs.on_book.Table.at_desk.Goals as goal

pub answer-requires : goal.answer-requires
answer-requires g c =
    let t = c.seated.new.self in
    let h : c.in-Some.place < length t.desks.items = subst (λ (o : Option ℕ). IfSome o (λ i. i < length t.desks.items)) c.in-Some.is c.in_ok-place.ensures.place in
    record {
      about = c.seated.ensures.fits.about;
      fits = desk_at t.shared.book t.rest t.desks.items c.in-Some.place c.index_mut-desk.result.now c.seated.ensures.fits.seats h c.index_mut-desk.ensures.value;
    }

pub returns : goal.returns
returns g c =
    let t = c.seated.new.self in
    record {
      about = c.seated.ensures.fits.about;
      seats = one_changed t.shared.book t.rest t.desks.items c.in-Some.place c.index_mut-desk.result.now c.answer.new.self c.seated.ensures.fits.seats c.index_mut-desk.ensures.value c.answer.ensures.1 c.answer.ensures.0;
      known = c.seated.ensures.fits.known;
    }
