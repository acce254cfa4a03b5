use Rattle.std.proofs.Common.{rules, ◌≡◌, ◌+◌, ◌*◌, ◌≤◌, ℕ, List, length, get_or, map, sym, ap, ◌∙◌, subst, arith}
use Rattle.std.specs.Prelude.{IfOk}
use Rattle.std.proofs.lemmas.List.{get_or_default}
use Rattle.ch_client.specs.Arrays.{CellsAre}
use Rattle.ch_client.specs.Stands.{RowBegins}
use Rattle.ch_conduct.specs.Meaning.{Meaning}
use Rattle.ch_crew.proofs.Working.{written_back, client_begins, played_back, played_did}
use Rattle.ch_crew.proofs.worker.play_on.Goals as goal
use Rattle.ch_crew.specs.Did.{MayPlay, PlayedBy}
use Rattle.ch_crew.specs.declared.crew.Caller.{Caller}
use Rattle.ch_rows.specs.FirstSeats.{IsBack}
use Rattle.ch_seats.specs.Walk.{Row}

pub play_script-log-requires-clause-begins : goal.play_script-log-requires-clause-begins
play_script-log-requires-clause-begins g c =
    let m : Meaning = g.B.Bench.means c.args.crew.now.bench.now in
    let caller = c.index-crew-number.result in
    let ready = c.requires.ready in
    let may = subst (λ (k : Caller). MayPlay m (length c.args.books.now) c.args.crew.now.turns k) (sym c.index-crew-number.is) (ready.may_play c.args.number caller c.requires.number) in
    let some = may.2 in
    let long : length c.as_slice.result.now ≡ length caller.sessions = ap length c.as_slice.ensures ∙ ap (λ (k : Caller). length k.sessions) (sym c.index-crew-number.is) in
    let enough : 5 * length c.as_slice.result.now + 1 ≤ c.args.crew.now.turns = omega (arith, some, long) in
    subst (λ v. RowBegins m c.args.number (5 * length c.as_slice.result.now + 1) c.args.books.now v) (sym c.deref_mut.ensures.value)
    (client_begins m c.args.number c.args.books.now c.args.row.items c.args.crew.now.turns (5 * length c.as_slice.result.now + 1) enough ready.books_are c.requires.row)

pub returns-clause-row : goal.returns-clause-row
returns-clause-row g c =
    let m : Meaning = g.B.Bench.means c.args.crew.now.bench.now in
    let caller = get_or c.args.crew.now.callers.now c.args.number c.index-crew-number.result in
    let x = c.args.row in
    let new = c.play_script-log.new.seats in
    let done = c.play_script-log.ensures in
    let old : length x.items ≡ x.len = search rules in
    let back = played_back m c.args.number c.args.books.now new caller.manner.patient caller.manner.machine c.play_script-log.result done.ended done.rests in
    let long : length new ≡ x.len = back.0 ∙ (sym c.requires.row.0 ∙ old) in
    subst (λ v. Row IsBack c.args.books.now v) (sym (written_back x.len new x.items old long)) back

pub returns-clause-did : goal.returns-clause-did
returns-clause-did g c =
    let m : Meaning = g.B.Bench.means c.args.crew.now.bench.now in
    let n = c.args.number in
    let callers = c.args.crew.now.callers.now in
    let caller = get_or c.args.crew.now.callers.now c.args.number c.index-crew-number.result in
    let x = c.args.row in
    let new = c.play_script-log.new.seats in
    let log = c.play_script-log.result in
    let done = c.play_script-log.ensures in
    let old : length x.items ≡ x.len = search rules in
    let back = played_back m n c.args.books.now new caller.manner.patient caller.manner.machine log done.ended done.rests in
    let long : length new ≡ x.len = back.0 ∙ (sym c.requires.row.0 ∙ old) in
    subst (λ v. PlayedBy m n callers c.args.books.now v log) (sym (written_back x.len new x.items old long))
    (played_did m n c.args.books.now new callers caller log (λ d. get_or_default callers n c.index-crew-number.result d c.requires.number)
    (subst (λ (v : List ℕ). IfOk log (λ l. map (λ s. s.session) l.lines.items ≡ v)) c.as_slice.ensures done.sessions) done.ended
    (subst (λ (v : List ℕ). IfOk log (λ l. CellsAre m n v l.arrays.items)) c.as_slice.ensures done.arrays))
