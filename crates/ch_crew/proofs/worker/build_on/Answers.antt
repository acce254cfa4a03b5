use Rattle.std.proofs.Common.{rules, ◌≡◌, Bool, length, sym, ◌∙◌, subst}
use Rattle.ch_builders.specs.Work.{MayWork, RowWorked}
use Rattle.ch_conduct.specs.Meaning.{Meaning}
use Rattle.ch_crew.proofs.Working.{written_back, builder_begins, builder_did, worked_back}
use Rattle.ch_crew.proofs.worker.build_on.Goals as goal
use Rattle.ch_crew.specs.Did.{BuilderDid}
use Rattle.ch_rows.specs.FirstSeats.{IsBack}
use Rattle.ch_seats.specs.Walk.{Row}

pub work-memory-requires-clause-works : goal.work-memory-requires-clause-works
work-memory-requires-clause-works g c =
    let m : Meaning = g.B.Bench.means c.args.crew.now.bench.now in
    subst (λ v. Row (MayWork m c.args.number) c.args.books.now v) (sym c.deref_mut.ensures.value)
    (builder_begins m c.args.number c.args.books.now c.args.row.items c.args.crew.now.turns c.args.crew.now.callers.now c.requires.ready c.requires.row)

pub returns-clause-row : goal.returns-clause-row
returns-clause-row g c =
    let m : Meaning = g.B.Bench.means c.args.crew.now.bench.now in
    let x = c.args.row in
    let new = c.work-memory.new.seats in
    let old : length x.items ≡ x.len = search rules in
    let back = worked_back m c.args.number c.args.books.now new c.work-memory.result c.work-memory.ensures.worked in
    let long : length new ≡ x.len = back.0 ∙ (sym c.requires.row.0 ∙ old) in
    subst (λ v. Row IsBack c.args.books.now v) (sym (written_back x.len new x.items old long)) back

pub returns-clause-did : goal.returns-clause-did
returns-clause-did g c =
    let m : Meaning = g.B.Bench.means c.args.crew.now.bench.now in
    let x = c.args.row in
    let new = c.work-memory.new.seats in
    let old : length x.items ≡ x.len = search rules in
    let back = worked_back m c.args.number c.args.books.now new c.work-memory.result c.work-memory.ensures.worked in
    let long : length new ≡ x.len = back.0 ∙ (sym c.requires.row.0 ∙ old) in
    λ e. subst (λ v. Row (BuilderDid m c.args.number) c.args.books.now v) (sym (written_back x.len new x.items old long))
    (builder_did m c.args.number c.args.books.now new (subst (λ (k : Bool). RowWorked m c.args.number k c.args.books.now new) e c.work-memory.ensures.worked))
