use Rattle.std.proofs.Common.{rules, ◌≡◌, ◌+◌, ◌-◌, ◌*◌, ℕ, length, sym, ◌∙◌, subst, arith}
use Rattle.ch_conduct.specs.Meaning.{Meaning}
use Rattle.ch_crew.proofs.Lasting.{client_added, may_first, may_one, may_others}
use Rattle.ch_crew.proofs.Working.{same_back, written_back}
use Rattle.ch_crew.proofs.crew.+call_all+fn-call_all-join+arg3.Goals as goal
use Rattle.ch_crew.specs.Did.{ClientsDone}
use Rattle.ch_rows.proofs.Kept.{blank_kept}
use Rattle.ch_rows.specs.FirstSeats.{Blank, IsFirst, MayCut}
use Rattle.ch_seats.specs.Walk.{Row}

pub returns-then-n-eq0-clause-seats : goal.returns-then-n-eq0-clause-seats
returns-then-n-eq0-clause-seats g t c = may_first c.args.books.now c.args.seats.items (c.args.n * c.args.crew.now.turns) c.requires.seats

pub cut_row-requires-clause-seats : goal.cut_row-requires-clause-seats
cut_row-requires-clause-seats g t c =
    let turns = c.args.crew.now.turns in
    let k = c.args.n - 1 in
    let n : k + 1 ≡ c.args.n = search rules in
    subst (λ v. Row (MayCut turns) c.args.books.now v) (sym c.deref_mut.ensures.value) (may_one c.args.books.now c.args.seats.items k c.args.n turns n c.requires.seats)

pub cut_row-requires-clause-blank : goal.cut_row-requires-clause-blank
cut_row-requires-clause-blank g t c =
    let k = c.args.n - 1 in
    let n : k + 1 ≡ c.args.n = search rules in
    subst (λ v. Row (Blank k) c.args.books.now v) (sym c.deref_mut.ensures.value) (c.requires.blank k (omega (arith, n)))

pub returns-in_default-clause-seats : goal.returns-in_default-clause-seats
returns-in_default-clause-seats g t c =
    let x = c.args.seats in
    let new = c.cut_row.new.seats in
    let old : length x.items ≡ x.len = search rules in
    let same = c.in_default.ensures.same ∙ c.deref_mut.ensures.value in
    subst (λ v. Row IsFirst c.args.books.now v) (sym (same_back x.len new x.items old same)) (may_first c.args.books.now x.items (c.args.n * c.args.crew.now.turns) c.requires.seats)

pub returns-in_default-clause-others : goal.returns-in_default-clause-others
returns-in_default-clause-others g t c =
    let x = c.args.seats in
    let new = c.cut_row.new.seats in
    let old : length x.items ≡ x.len = search rules in
    let same = c.in_default.ensures.same ∙ c.deref_mut.ensures.value in
    λ y high r. subst (λ v. Row (Blank y) c.args.books.now v) (sym (same_back x.len new x.items old same)) r

pub join-row-requires-after_bounds : goal.join-row-requires-after_bounds
join-row-requires-after_bounds g t c =
    let books = c.args.books.now in
    let x = c.args.seats in
    let new = c.cut_row.new.seats in
    let old : length x.items ≡ x.len = search rules in
    let turns = c.args.crew.now.turns in
    let k = c.args.n - 1 in
    let n : k + 1 ≡ c.args.n = search rules in
    let start = subst (λ v. Row (MayCut (k * turns + turns)) books v) (sym c.deref_mut.ensures.value) (may_others books x.items k c.args.n turns n c.requires.seats) in
    let may = c.in-Ok.ensures.seats (k * turns) start in
    let long : length new ≡ x.len = may.0 ∙ (sym c.requires.seats.0 ∙ old) in
    let back = sym (written_back x.len new x.items old long) in
    let callers = c.requires.callers in
    λ κs within. (
      (c.requires.ready, omega (arith, n, callers), c.in-Ok.ensures.new),
      (
        search rules,
        (
          λ a in_it. in_it,
          (
            λ a in_it. in_it,
            (
              λ a in_it. in_it,
              (
                λ a in_it. in_it,
                (
                  (
                    search rules,
                    search rules,
                    search rules,
                    c.requires.ready,
                    omega (arith, n, callers),
                    subst (λ v. Row (MayCut (k * turns)) books v) back may,
                    λ y low. subst (λ v. Row (Blank y) books v) back (c.in-Ok.ensures.others y (λ e. omega (arith, e, low)) (subst (λ v. Row (Blank y) books v) (sym c.deref_mut.ensures.value) (c.requires.blank y (omega (arith, n, low))))),
                  ),
                  search rules,
                ),
              ),
            ),
          ),
        ),
      ),
    )

pub returns-clause-clients : goal.returns-clause-clients
returns-clause-clients g t c =
    let m : Meaning = g.B.Bench.means c.args.crew.now.bench.now in
    let callers = c.args.crew.now.callers.now in
    let first = c.join-row.ensures.first in
    let second = c.join-row.ensures.second in
    let e = c.with_client.ensures in
    λ f.
    let k = c.args.n - 1 in
    let n : k + 1 ≡ c.args.n = search rules in
    subst (λ (k : ℕ). ClientsDone m k callers c.args.books.now c.with_client.result.seats.items c.with_client.result.logs.items) n
    (client_added c.args.books.now c.join-row.result.0.0.items c.join-row.result.1.seats.items c.with_client.result.seats.items e.theirs e.ours m k callers c.join-row.result.1.logs.items c.with_client.result.logs.items c.join-row.result.0.1
    (e.logs f) first.1 (second.1 (e.memory f)))

pub returns-clause-others : goal.returns-clause-others
returns-clause-others g t c =
    let second = c.join-row.ensures.second in
    let books = c.args.books.now in
    let x = c.args.seats in
    let new = c.cut_row.new.seats in
    let old : length x.items ≡ x.len = search rules in
    let turns = c.args.crew.now.turns in
    let k = c.args.n - 1 in
    let n : k + 1 ≡ c.args.n = search rules in
    let start = subst (λ v. Row (MayCut (k * turns + turns)) books v) (sym c.deref_mut.ensures.value) (may_others books x.items k c.args.n turns n c.requires.seats) in
    let long : length new ≡ x.len = (c.in-Ok.ensures.seats (k * turns) start).0 ∙ (sym c.requires.seats.0 ∙ old) in
    λ y high r.
    let a = c.in-Ok.ensures.others y (λ e. omega (arith, e, high, n)) (subst (λ v. Row (Blank y) books v) (sym c.deref_mut.ensures.value) r) in
    let b = subst (λ v. Row (Blank y) books v) (sym (written_back x.len new x.items old long)) a in
    blank_kept books c.join-row.result.1.seats.items c.with_client.result.seats.items y (c.with_client.ensures.ours y) (second.2 y (omega (arith, high, n)) b)
