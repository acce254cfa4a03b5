use Rattle.std.proofs.Common.{rules, ◌≡◌, ℕ, ◌+◌, ◌*◌, ◌<◌, ◌≤◌, List, [], length, refl, sym, ap, ◌∙◌, subst, arith}
use Rattle.ch_conduct.specs.Meaning.{Meaning}
use Rattle.ch_conduct.specs.declared.report.CallLine.{CallLine}
use Rattle.ch_client.specs.Stands.{RowStands, RowEnded, RowRests}
use Rattle.ch_client.proofs.Standing.{row_begins, begins_rest}
use Rattle.ch_client.proofs.Running.{on_err}
use Rattle.ch_client.proofs.client.calls.Goals as goal

pub returns-in_err-no_lasts-clause-rests : goal.returns-in_err-no_lasts-clause-rests
returns-in_err-no_lasts-clause-rests g c =
    let m : Meaning = g.B.Bench.means c.args.client.now.bench.now in
    let k = c.args.client.now in
    on_err _ (RowRests m k.number 1 c.args.books.now c.args.seats.now) (begins_rest m k.number k.manner.patient k.manner.machine g.V.Made.made (length c.args.sessions.now) c.args.books.now c.args.seats.now c.requires.begins)

pub returns-in_err-filled-clause-rests : goal.returns-in_err-filled-clause-rests
returns-in_err-filled-clause-rests g c =
    let m : Meaning = g.B.Bench.means c.args.client.now.bench.now in
    let k = c.args.client.now in
    on_err _ (RowRests m k.number 1 c.args.books.now c.args.seats.now) (begins_rest m k.number k.manner.patient k.manner.machine g.V.Made.made (length c.args.sessions.now) c.args.books.now c.args.seats.now c.requires.begins)

pub play-requires-clause-stands : goal.play-requires-clause-stands
play-requires-clause-stands g c =
    let m : Meaning = g.B.Bench.means c.args.client.now.bench.now in
    let k = c.args.client.now in
    row_begins m k.number k.manner.patient k.manner.machine g.V.Made.made [] (length c.args.sessions.now) c.args.books.now c.args.seats.now c.in_ok-no_lasts.field-0.items c.in_ok-no_lasts.field-0.items _ refl (search rules) refl c.in_ok-no_lasts.ensures c.requires.begins

pub leave_called-requires-clause-stands : goal.leave_called-requires-clause-stands
leave_called-requires-clause-stands g c =
    let m : Meaning = g.B.Bench.means c.args.client.now.bench.now in
    let k = c.args.client.now in
    subst (λ (v : List CallLine). RowStands m k.number k.manner.patient k.manner.machine g.V.Made.made v 0 c.args.books.now c.play.new.seats c.play.new.notes.lasts.items) (sym c.deref.ensures.value) c.in_ok-lines.ensures.stands

pub returns-clause-ended : goal.returns-clause-ended
returns-clause-ended g c =
    let m : Meaning = g.B.Bench.means c.args.client.now.bench.now in
    let k = c.args.client.now in
    subst (λ (v : List CallLine). RowEnded m k.number k.manner.patient k.manner.machine v c.args.books.now c.leave_called.new.seats) c.deref.ensures.value c.leave_called.ensures.ended
