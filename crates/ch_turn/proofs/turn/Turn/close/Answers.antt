use Rattle.std.proofs.Common.{◌≡◌, ◌≤◌, ◌<◌, Some, None, sym, ap, ◌∙◌, subst, All}
use mathlib.Core.Option as maybe
use Rattle.ch_turn.specs.Holdings.{entries_of, own_entries}
use Rattle.ch_turn.specs.History.{IsPrefix}
use Rattle.ch_turn.specs.Seats.{holdings, reads_of, seen_by}
use Rattle.ch_turn.proofs.Ends.{close_ends}
use Rattle.ch_turn.proofs.turn.Turn.close.Goals as goal

pub unreachable-requires : goal.unreachable-requires
unreachable-requires g c =
    let f = close_ends _ _ _ _ _ _ _ _ _ c.requires.idle.2 c.requires.numbers c.close_with-closed.ensures.values.2 in
    let bad : maybe.some (Some f.0) ≡ maybe.some None = sym f.1 ∙ (c.take-slot.ensures.value ∙ ap maybe.some c.in_default.is) in absurd (cc)

pub returns-clause-seen : goal.returns-clause-seen
returns-clause-seen g c =
    let f = close_ends _ _ _ _ _ _ _ _ _ c.requires.idle.2 c.requires.numbers c.close_with-closed.ensures.values.2 in
    let both : maybe.some (Some f.0) ≡ maybe.some (Some c.in-Some.value) = sym f.1 ∙ (c.take-slot.ensures.value ∙ ap maybe.some c.in-Some.is) in
    let same : f.0 ≡ c.in-Some.value = cc in
    subst (λ (x : g.row.V.Denot). IsPrefix (seen_by c.args.seat) (g.V.Listed.list x)) same f.2

pub returns-clause-reads : goal.returns-clause-reads
returns-clause-reads g c =
    let f = close_ends _ _ _ _ _ _ _ _ _ c.requires.idle.2 c.requires.numbers c.close_with-closed.ensures.values.2 in
    let both : maybe.some (Some f.0) ≡ maybe.some (Some c.in-Some.value) = sym f.1 ∙ (c.take-slot.ensures.value ∙ ap maybe.some c.in-Some.is) in
    let same : f.0 ≡ c.in-Some.value = cc in
    subst (λ (x : g.row.V.Denot). All (λ r. r ≤ g.V.Listed.news (g.V.Listed.list x)) (reads_of c.args.seat)) same f.3

pub returns-clause-numbered : goal.returns-clause-numbered
returns-clause-numbered g c =
    let f = close_ends _ _ _ _ _ _ _ _ _ c.requires.idle.2 c.requires.numbers c.close_with-closed.ensures.values.2 in
    let both : maybe.some (Some f.0) ≡ maybe.some (Some c.in-Some.value) = sym f.1 ∙ (c.take-slot.ensures.value ∙ ap maybe.some c.in-Some.is) in
    let same : f.0 ≡ c.in-Some.value = cc in
    subst (λ (x : g.row.V.Denot). All (λ e. g.V.Listed.by e < 65536) (g.V.Listed.list x)) same f.6

pub returns-clause-own : goal.returns-clause-own
returns-clause-own g c =
    let f = close_ends _ _ _ _ _ _ _ _ _ c.requires.idle.2 c.requires.numbers c.close_with-closed.ensures.values.2 in
    let both : maybe.some (Some f.0) ≡ maybe.some (Some c.in-Some.value) = sym f.1 ∙ (c.take-slot.ensures.value ∙ ap maybe.some c.in-Some.is) in
    let same : f.0 ≡ c.in-Some.value = cc in
    λ n lt. subst (λ (x : g.row.V.Denot). entries_of g.V.Listed.by n (g.V.Listed.list x) ≡ own_entries n (holdings c.args.seat)) same (f.4 n (c.requires.numbers n lt))

pub returns-clause-alike : goal.returns-clause-alike
returns-clause-alike g c =
    let f = close_ends _ _ _ _ _ _ _ _ _ c.requires.idle.2 c.requires.numbers c.close_with-closed.ensures.values.2 in
    let both : maybe.some (Some f.0) ≡ maybe.some (Some c.in-Some.value) = sym f.1 ∙ (c.take-slot.ensures.value ∙ ap maybe.some c.in-Some.is) in
    let same : f.0 ≡ c.in-Some.value = cc in
    subst (λ (x : g.row.V.Denot). g.V.Listed.alike c.args.self.table.shared.key.first.value x) same f.5
