use Rattle.std.proofs.Common.{◌≡◌, ℕ, List, ap, ◌∙◌}
use Rattle.ch_session.specs.declared.event.Event.{Event}
use Rattle.ch_session.specs.declared.event.Event.TheVariants.{Claim}
use Rattle.ch_session.specs.Growth.{by, seat_of}
use Rattle.ch_session.specs.Replies.{Past}
use Rattle.ch_turn.specs.Holdings.{entries_of, own_entries}
use Rattle.ch_book.proofs.Turns.{made_later, last_by, built_taken, seat_is}
use Rattle.ch_book.specs.Books.{seen, own, owns, number_of}
use Rattle.ch_book.proofs.book.Book.built.Goals as goal

pub built-reply-requires : goal.built-reply-requires
built-reply-requires g c = made_later (g.V.Made.made) c.args.self.now (seen c.args.seat.now) c.enter-session.result c.args.trial c.args.outcome c.enter-session.ensures.alike c.known.ensures c.enter-session.ensures.seen c.requires.trial c.requires.made

pub returns-clause-taken : goal.returns-clause-taken
returns-clause-taken g c = λ last.
    let q : Past = c.enter-session.result in
    let h : List Event = q.events in
    let n : ℕ = c.number.result in
    let mine : entries_of by n h ≡ own c.args.seat.now = c.enter-session.ensures.own n c.number.ensures.held ∙ ap (λ (m : ℕ). own_entries m (owns c.args.seat.now)) c.number.ensures.value in
    built_taken q c.args.builder c.args.trial c.built-reply.result c.known.ensures
    (last_by by n (seat_of c.args.builder) (own c.args.seat.now) (Claim c.args.builder c.args.trial) h mine (c.number.ensures.value ∙ seat_is (number_of c.args.seat.now) c.args.builder c.requires.number c.requires.builder) last) c.built-reply.ensures.reply
