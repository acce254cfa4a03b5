use Rattle.std.proofs.Common.{rules, ◌≡◌, ◌≢◌, ◌⊎◌, inl, inr, ◌+◌, ◌-◌, ◌*◌, ◌<◌, ◌≤◌, ℕ, List, length, sym, ◌∙◌, subst, arith}
use Rattle.ch_client.specs.declared.client.Log.{Log}
use Rattle.ch_conduct.specs.Meaning.{Meaning}
use Rattle.ch_crew.proofs.Lasting.{builder_added, clients_kept, may_first, may_one, may_others, may_share}
use Rattle.ch_crew.proofs.Working.{same_back, written_back}
use Rattle.ch_crew.proofs.crew.+fn-run_all-join+arg3+run_all.Goals as goal
use Rattle.ch_crew.specs.Did.{ClientsDone}
use Rattle.ch_rows.proofs.Kept.{blank_kept}
use Rattle.ch_rows.specs.FirstSeats.{Blank, IsFirst, MayCut}
use Rattle.ch_seats.specs.Walk.{Row}

out_of : (x k n c : ℕ) → k < n → c ≤ 100 → 100 ≤ k → c ≤ x → (x < k) ⊎ (n ≤ x) → x ≢ k
out_of x k n c l f h u (inl a) e = absurd (omega (arith, a, e))
out_of x k n c l f h u (inr a) e = absurd (omega (arith, a, e))

wider : (x k n : ℕ) → (x < k) ⊎ (n ≤ x) → (x < k + 1) ⊎ (n ≤ x)
wider x k n (inl a) = inl (omega arith)
wider x k n (inr a) = inr a

not_here : (x k n c : ℕ) → c ≤ 100 → 100 ≤ k → (x < c) ⊎ ((k + 1 ≤ x) × (x < n)) → x ≢ k
not_here x k n c f h (inl a) e = absurd (omega (arith, f, h, a, e))
not_here x k n c f h (inr a) e = let b = a.0 in absurd (omega (arith, b, e))

earlier : (x k n c : ℕ) → (x < c) ⊎ ((k + 1 ≤ x) × (x < n)) → (x < c) ⊎ ((k ≤ x) × (x < n))
earlier x k n c (inl a) = inl a
earlier x k n c (inr a) = let b = a.0 in inr (omega arith, a.1)

pub returns-clause-clients : goal.returns-clause-clients
returns-clause-clients g t c =
    let m : Meaning = g.B.Bench.means c.args.crew.now.bench.now in
    let callers = c.args.crew.now.callers.now in
    let second = c.join-row.ensures.second in
    let e = c.with_builder.ensures in
    λ f. subst (λ (v : List Log). ClientsDone m (length callers) callers c.args.books.now c.with_builder.result.seats.items v) (sym e.logs)
    (clients_kept c.args.books.now c.join-row.result.1.seats.items c.with_builder.result.seats.items m (length callers) callers c.join-row.result.1.logs.items e.ours (second.1 (e.memory f).0))

pub returns-clause-builders : goal.returns-clause-builders
returns-clause-builders g t c =
    let m : Meaning = g.B.Bench.means c.args.crew.now.bench.now in
    let first = c.join-row.ensures.first in
    let second = c.join-row.ensures.second in
    let e = c.with_builder.ensures in
    λ f. builder_added c.args.books.now c.join-row.result.0.0.items c.join-row.result.1.seats.items c.with_builder.result.seats.items e.theirs e.ours m c.args.k c.args.n (first.1 (e.memory f).1) (second.2 (e.memory f).0)

pub call_all-requires-clause-seats : goal.call_all-requires-clause-seats
call_all-requires-clause-seats g t c =
    let workers = length c.args.crew.now.callers.now in
    λ κs within. may_share c.args.books.now c.args.seats.items workers (c.args.n - c.args.k + workers) c.args.crew.now.turns (omega arith) c.requires.seats

pub call_all-requires-clause-blank : goal.call_all-requires-clause-blank
call_all-requires-clause-blank g t c = λ κs within y low. c.requires.blank y (inl low)

pub returns-then-k-n-clause-others : goal.returns-then-k-n-clause-others
returns-then-k-n-clause-others g t c = λ y high out r. c.call_all.ensures.others y high r

pub cut_row-requires-clause-seats : goal.cut_row-requires-clause-seats
cut_row-requires-clause-seats g t c =
    let turns = c.args.crew.now.turns in
    let workers = length c.args.crew.now.callers.now in
    let less : c.args.k < c.args.n = search rules in
    let one : c.args.n - (c.args.k + 1) + workers + 1 ≡ c.args.n - c.args.k + workers = omega (arith, less) in
    subst (λ v. Row (MayCut turns) c.args.books.now v) (sym c.deref_mut.ensures.value)
    (may_one c.args.books.now c.args.seats.items (c.args.n - (c.args.k + 1) + workers) (c.args.n - c.args.k + workers) turns one c.requires.seats)

pub cut_row-requires-clause-blank : goal.cut_row-requires-clause-blank
cut_row-requires-clause-blank g t c =
    let less : c.args.k < c.args.n = search rules in
    let self : c.args.k ≤ c.args.k = omega arith in
    subst (λ v. Row (Blank c.args.k) c.args.books.now v) (sym c.deref_mut.ensures.value) (c.requires.blank c.args.k (inr (self, less)))

pub returns-in_default-clause-seats : goal.returns-in_default-clause-seats
returns-in_default-clause-seats g t c =
    let x = c.args.seats in
    let new = c.cut_row.new.seats in
    let old : length x.items ≡ x.len = search rules in
    let same = c.in_default.ensures.same ∙ c.deref_mut.ensures.value in
    let all = c.args.n - c.args.k + length c.args.crew.now.callers.now in
    subst (λ v. Row IsFirst c.args.books.now v) (sym (same_back x.len new x.items old same)) (may_first c.args.books.now x.items (all * c.args.crew.now.turns) c.requires.seats)

pub returns-in_default-clause-others : goal.returns-in_default-clause-others
returns-in_default-clause-others g t c =
    let x = c.args.seats in
    let new = c.cut_row.new.seats in
    let old : length x.items ≡ x.len = search rules in
    let same = c.in_default.ensures.same ∙ c.deref_mut.ensures.value in
    λ y high out r. subst (λ v. Row (Blank y) c.args.books.now v) (sym (same_back x.len new x.items old same)) r

pub join-row-requires-after_bounds : goal.join-row-requires-after_bounds
join-row-requires-after_bounds g t c =
    let books = c.args.books.now in
    let x = c.args.seats in
    let new = c.cut_row.new.seats in
    let old : length x.items ≡ x.len = search rules in
    let turns = c.args.crew.now.turns in
    let workers = length c.args.crew.now.callers.now in
    let less : c.args.k < c.args.n = search rules in
    let high = c.requires.builders.0 in
    let most = c.requires.builders.2 in
    let few = c.requires.ready.clients in
    let others = c.args.n - (c.args.k + 1) + workers in
    let one : c.args.n - (c.args.k + 1) + workers + 1 ≡ c.args.n - c.args.k + workers = omega (arith, less) in
    let start = subst (λ v. Row (MayCut (others * turns + turns)) books v) (sym c.deref_mut.ensures.value) (may_others books x.items others (c.args.n - c.args.k + workers) turns one c.requires.seats) in
    let may = c.in-Ok.ensures.seats (others * turns) start in
    let long : length new ≡ x.len = may.0 ∙ (sym c.requires.seats.0 ∙ old) in
    let back = sym (written_back x.len new x.items old long) in
    λ κs within. (
      (c.requires.ready, omega (arith, less, most), c.in-Ok.ensures.new),
      (
        search rules,
        (
          λ a in_it. in_it,
          (
            λ a in_it. in_it,
            (
              λ a in_it. in_it,
              (
                λ a in_it. in_it,
                (
                  (
                    search rules,
                    search rules,
                    search rules,
                    c.requires.ready,
                    (omega (arith, high), omega (arith, less), most),
                    subst (λ v. Row (MayCut (others * turns)) books v) back may,
                    λ y low. subst (λ v. Row (Blank y) books v) back
                        (c.in-Ok.ensures.others y (not_here y c.args.k c.args.n workers few high low) (subst (λ v. Row (Blank y) books v) (sym c.deref_mut.ensures.value) (c.requires.blank y (earlier y c.args.k c.args.n workers low)))),
                  ),
                  search rules,
                ),
              ),
            ),
          ),
        ),
      ),
    )

pub returns-clause-others : goal.returns-clause-others
returns-clause-others g t c =
    let second = c.join-row.ensures.second in
    let books = c.args.books.now in
    let x = c.args.seats in
    let new = c.cut_row.new.seats in
    let old : length x.items ≡ x.len = search rules in
    let turns = c.args.crew.now.turns in
    let workers = length c.args.crew.now.callers.now in
    let less : c.args.k < c.args.n = search rules in
    let others = c.args.n - (c.args.k + 1) + workers in
    let one : c.args.n - (c.args.k + 1) + workers + 1 ≡ c.args.n - c.args.k + workers = omega (arith, less) in
    let start = subst (λ v. Row (MayCut (others * turns + turns)) books v) (sym c.deref_mut.ensures.value) (may_others books x.items others (c.args.n - c.args.k + workers) turns one c.requires.seats) in
    let long : length new ≡ x.len = (c.in-Ok.ensures.seats (others * turns) start).0 ∙ (sym c.requires.seats.0 ∙ old) in
    λ y high out r.
    let a = c.in-Ok.ensures.others y (out_of y c.args.k c.args.n workers less c.requires.ready.clients c.requires.builders.0 high out) (subst (λ v. Row (Blank y) books v) (sym c.deref_mut.ensures.value) r) in
    let b = subst (λ v. Row (Blank y) books v) (sym (written_back x.len new x.items old long)) a in
    blank_kept books c.join-row.result.1.seats.items c.with_builder.result.seats.items y (c.with_builder.ensures.ours y) (second.3 y high (wider y c.args.k c.args.n out) b)
