use Rattle.std.proofs.Common.{rules, ◌≡◌, length, sym, ◌∙◌, subst}
use Rattle.ch_crew.proofs.Working.{written_back}
use Rattle.ch_crew.proofs.crew.with_builder.Goals as goal
use Rattle.ch_rows.specs.FirstSeats.{IsFirst, Keeps}
use Rattle.ch_seats.specs.Walk.{Row}

pub take_row-requires-clause-seats : goal.take_row-requires-clause-seats
take_row-requires-clause-seats g c = subst (λ v. Row IsFirst c.args.books.now v) (sym c.deref_mut.ensures.value) c.requires.seats

pub returns-clause-seats : goal.returns-clause-seats
returns-clause-seats g c =
    let x = c.args.before.seats in
    let new = c.take_row.new.seats in
    let old : length x.items ≡ x.len = search rules in
    let long : length new ≡ x.len = c.take_row.ensures.seats.0 ∙ (sym c.requires.seats.0 ∙ old) in
    subst (λ v. Row IsFirst c.args.books.now v) (sym (written_back x.len new x.items old long)) c.take_row.ensures.seats

pub returns-clause-ours : goal.returns-clause-ours
returns-clause-ours g c =
    let x = c.args.before.seats in
    let new = c.take_row.new.seats in
    let old : length x.items ≡ x.len = search rules in
    let long : length new ≡ x.len = c.take_row.ensures.seats.0 ∙ (sym c.requires.seats.0 ∙ old) in
    λ n. subst (λ v. Row (Keeps n) x.items v) (sym (written_back x.len new x.items old long)) (subst (λ v. Row (Keeps n) v new) c.deref_mut.ensures.value (c.take_row.ensures.ours n))

pub returns-clause-theirs : goal.returns-clause-theirs
returns-clause-theirs g c =
    let x = c.args.before.seats in
    let new = c.take_row.new.seats in
    let old : length x.items ≡ x.len = search rules in
    let long : length new ≡ x.len = c.take_row.ensures.seats.0 ∙ (sym c.requires.seats.0 ∙ old) in
    λ n. subst (λ v. Row (Keeps n) c.args.row.items v) (sym (written_back x.len new x.items old long)) (c.take_row.ensures.theirs n)
