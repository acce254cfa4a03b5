use Rattle.std.proofs.Common.{ℕ, arith, ◌≡◌, ◌++◌, ◌≤◌, List, Some, length, drop, All, ap, sym, ◌∙◌, subst, true}
use Rattle.std.proofs.Math.Seq.{drop-append_seam}
use Rattle.ch_session.specs.declared.event.Event.{Event}
use Rattle.ch_session.specs.declared.event.Event.TheVariants.{Fetch}
use Rattle.ch_session.specs.History.{Theme, is_legal}
use Rattle.ch_session.specs.Growth.{by}
use Rattle.ch_session.specs.Replies.{Past, ReportReply, added_by_report}
use Rattle.ch_turn.specs.Holdings.{entries_of, own_entries, with_entries}
use Rattle.ch_turn.specs.Seats.{IsIdle, taken_by}
use Rattle.ch_book.proofs.Turns.{same_past, last_by, report_taken}
use Rattle.ch_book.specs.Books.{first_of, with_events, own, owns}
use Rattle.ch_book.proofs.book.Book.report.Goals as goal

pub returns : goal.returns
returns g c =
    let q : Past = c.enter-session.result in
    let b = c.args.self.now in
    let h : List Event = q.events in
    let same : with_events b h ≡ q = same_past b q c.enter-session.ensures.alike in
    let added : List Event = added_by_report (with_events b h) c.args.client c.args.trial c.args.call c.args.cost c.report-reply.result in
    let added_is : added_by_report q c.args.client c.args.trial c.args.call c.args.cost c.report-reply.result ≡ added = ap (λ (x : Past). added_by_report x c.args.client c.args.trial c.args.call c.args.cost c.report-reply.result) (sym same) in
    let new : c.report-reply.new.self.events ≡ h ++ added = ap (λ (x : Past). x.events) c.report-reply.ensures.after ∙ ap (λ (v : List Event). h ++ v) added_is in
    let theme : c.report-reply.new.self.theme ≡ (first_of b).theme = ap (λ (x : Past). x.theme) c.report-reply.ensures.after ∙ c.enter-session.ensures.alike.1 in
    let rest : drop (length (taken_by c.enter-session.new.seat)) c.report-reply.new.self.events ≡ added = (λ i. drop (length (c.enter-session.ensures.taken i)) (new i)) ∙ drop-append_seam h added in
    let n : ℕ = c.number.result in
    let mine : entries_of by n h ≡ own c.args.seat.now = c.enter-session.ensures.own n c.number.ensures.held ∙ ap (λ (m : ℕ). own_entries m (owns c.args.seat.now)) c.number.ensures.value in
    record {
      taken = λ last. report_taken q c.args.client c.args.trial 0 c.report-reply.result c.known.ensures (last_by by n c.args.client (own c.args.seat.now) (Fetch c.args.client (Some c.args.trial) 0) h mine (c.number.ensures.value ∙ sym c.requires.client) last) c.report-reply.ensures.reply;
      turn = (
        h,
        record {
          later = c.enter-session.ensures.seen;
          read = c.enter-session.ensures.reads;
          owned = c.enter-session.ensures.own;
          legal = sym (λ i. is_legal (theme i) (new i)) ∙ c.known-2.ensures;
          marked = c.enter-session.ensures.numbered;
          seat = subst (λ (n : ℕ). IsIdle b.turn n c.leave.new.seat) c.enter-session.ensures.seat.1 c.leave.ensures.seat;
          left = omega (arith, c.leave.ensures.kept.0, c.enter-session.ensures.turns);
          reads_are = c.leave.ensures.kept.1 ∙ c.enter-session.ensures.knows.1;
          seen_is = c.leave.ensures.seen ∙ new;
          owns_are = c.leave.ensures.holdings ∙ (λ i. with_entries by (rest i) (c.enter-session.ensures.knows.2 i));
        },
        subst (λ (x : Past). ReportReply x c.args.client c.args.trial c.report-reply.result) (sym same) c.report-reply.ensures.reply,
      );
    }
