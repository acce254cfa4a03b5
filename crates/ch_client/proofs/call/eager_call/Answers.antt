use Rattle.std.proofs.Common.{◌≡◌, ◌∷◌, [], ℕ, Option, Some, None, false, refl, subst}
use Rattle.ch_conduct.specs.Turns.{ReadNews}
use Rattle.ch_conduct.proofs.OneCall.{keeps}
use Rattle.ch_conduct.specs.Turns.Compared.{nothing, differs}
use Rattle.ch_seats.specs.Seated.{theme_in, knows}
use Rattle.ch_client.proofs.Moves.{eager_settled}
use Rattle.ch_client.proofs.call.eager_call.Goals as goal

pub returns-in_ok-run-in-Some-clause-call : goal.returns-in_ok-run-in-Some-clause-call
returns-in_ok-run-in-Some-clause-call g c =
    let n = c.args.at.now.number in
    keeps (theme_in c.args.at.now.book.now) _ n false c.args.machine.now c.args.last.now.how c.args.call c.in-Some.version c.in-Some.news (knows n c.args.seat.now) (knows n c.news.new.seat) refl c.in-Some.ensures.shows
    (subst (λ (r : ℕ). ReadNews (knows n c.args.seat.now) (knows n c.news.new.seat) r) c.if-news.true c.news.ensures.read)

pub returns-else-news-clause-call : goal.returns-else-news-clause-call
returns-else-news-clause-call g c =
    let n = c.args.at.now.number in
    eager_settled c.settle.result (theme_in c.args.at.now.book.now) _ n c.args.machine.now c.args.last.now.how c.args.call (knows n c.args.seat.now) (knows n c.news.new.seat) (knows n c.settle.new.seat) (c.news.result ∷ [])
    (differs c.news.result c.in-Some.news c.in-Some.ensures.news c.if-news.false c.news.ensures.read refl) c.settle.ensures.settles

pub returns-in-None-clause-call : goal.returns-in-None-clause-call
returns-in-None-clause-call g c =
    let n = c.args.at.now.number in
    eager_settled c.settle-in-None.result (theme_in c.args.at.now.book.now) _ n c.args.machine.now c.args.last.now.how c.args.call (knows n c.args.seat.now) (knows n c.args.seat.now) (knows n c.settle-in-None.new.seat) [] (nothing c.in-None.ensures.news refl refl) c.settle-in-None.ensures.settles
