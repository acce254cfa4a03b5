use Rattle.std.proofs.Common.{◌≡◌, ℕ, ◌+◌, ◌-◌, ◌<◌, ◌≤◌, length, refl, arith}
use Rattle.ch_conduct.specs.Meaning.{Judge, Meaning, judge_of, program_of}
use Rattle.ch_client.proofs.Standing.{row_next, row_rests}
use Rattle.ch_client.proofs.rows.next_call.Goals as goal

pub returns-in_err-how-clause-rests : goal.returns-in_err-how-clause-rests
returns-in_err-how-clause-rests g c =
    let m : Meaning = g.B.Bench.means c.args.client.now.bench.now in
    let more = c.requires.more.0 in
    row_rests m c.args.client.now.number c.args.client.now.manner.patient c.args.client.now.manner.machine g.V.Made.made c.args.lines.now (length c.args.sessions.now - length c.args.lines.now) _ c.args.books.now c.args.seats.now c.args.notes.now.lasts.items c.index-books-i.result c.index-seats-i.result c.call_once.new.seat c.index_mut.result.now c.requires.there c.index-books-i.is (omega (arith, more)) c.requires.stands c.call_once.ensures.sits c.call_once.ensures.left

pub returns-clause-rests : goal.returns-clause-rests
returns-clause-rests g c =
    let m : Meaning = g.B.Bench.means c.args.client.now.bench.now in
    let more = c.requires.more.0 in
    row_rests m c.args.client.now.number c.args.client.now.manner.patient c.args.client.now.manner.machine g.V.Made.made c.args.lines.now (length c.args.sessions.now - length c.args.lines.now) _ c.args.books.now c.args.seats.now c.args.notes.now.lasts.items c.index-books-i.result c.index-seats-i.result c.call_once.new.seat c.index_mut.result.now c.requires.there c.index-books-i.is (omega (arith, more)) c.requires.stands c.call_once.ensures.sits c.call_once.ensures.left

pub returns-clause-stands : goal.returns-clause-stands
returns-clause-stands g c =
    let m : Meaning = g.B.Bench.means c.args.client.now.bench.now in
    let more = c.requires.more.0 in
    let e = c.in_ok-how.ensures in
    row_next m c.args.client.now.number c.args.client.now.manner.patient c.args.client.now.manner.machine g.V.Made.made c.args.lines.now (record { session = _; how = c.in_ok-how.how }) (length c.args.sessions.now - length c.args.lines.now) (length c.args.sessions.now - (length c.args.lines.now + 1)) _ c.args.books.now c.args.seats.now c.args.notes.now.lasts.items c.index-books-i.result c.index-seats-i.result c.call_once.new.seat c.index_mut.result.now c.call_once.new.last c.requires.there c.index-books-i.is refl (omega (arith, more)) c.requires.stands c.call_once.ensures.sits c.call_once.ensures.left c.index_mut.ensures.value e.call e.last.0 e.last.1
