use Rattle.std.proofs.Common.{◌≡◌, ◌∙◌, [], ap, subst, sym, All}
use Rattle.std.proofs.lemmas.List.Elements.{All-nil, All-same}
use Rattle.ch_book.specs.Books.{first_of}
use Rattle.ch_session.specs.Replies.{Past}
use Rattle.ch_sessions.specs.Desks.{DeskFits, IsJob}
use Rattle.ch_sessions.specs.declared.desk.Desk.{Desk}
use Rattle.ch_sessions.proofs.Knowing.{first_seat}
use Rattle.ch_sessions.proofs.on_book.Table.open.Goals as goal

pub returns : goal.returns
returns c =
    let b = c.in_ok-book.book in
    let p : Past = c.in_ok-session.session in
    let e = c.in_ok-book.ensures.book ∙ c.in_ok-session.ensures in
    record {
      about = (ap (λ (x : Past). x.subject) e, ap (λ (x : Past). x.theme) e);
      seats = record {
        first = first_seat b c.in_ok-book.rest p c.in_ok-book.ensures.book (ap (λ (x : Past). x.events) c.in_ok-session.ensures) c.known.ensures c.in_ok-book.ensures.seat.0 c.in_ok-book.ensures.blank.0;
        held = λ n small none. c.in_ok-book.ensures.numbers n small;
        desks = All-same (λ (d : Desk). DeskFits b d.seat d.jobs.items) c.new.result.items [] c.new.ensures.items (All-nil (λ (d : Desk). DeskFits b d.seat d.jobs.items));
      };
      known = subst (λ (x : Past). All (IsJob x.theme []) c.in_ok-first.first.items) (sym c.in_ok-book.ensures.book) c.in_ok-first.ensures;
    }
