use Rattle.std.proofs.Common.{◌≡◌, ◌∙◌, ℕ, List, subst, sym, true}
use Rattle.ch_book.specs.Books.{number_of}
use Rattle.ch_session.specs.declared.event.Event.{Event}
use Rattle.ch_turn.specs.Holdings.{has_number}
use Rattle.ch_sessions.proofs.Knowing.{seat_alike}
use Rattle.ch_sessions.proofs.turns.first_news.Goals as goal

pub returns-clause-rest : goal.returns-clause-rest
returns-clause-rest g c =
    let k = seat_alike c.args.book.now (number_of c.args.rest.now) c.args.rest.now c.news.new.seat c.news.ensures.seat c.news.ensures.kept.1 c.requires.0 in
    (k.0, k.1 ∙ c.requires.1)

pub returns-clause-held : goal.returns-clause-held
returns-clause-held g c = λ n h. subst (λ (v : List (ℕ × List Event)). has_number n v ≡ true) (sym c.news.ensures.kept.2) h
