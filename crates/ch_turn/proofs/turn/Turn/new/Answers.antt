use Rattle.std.proofs.Common.{rules, ◌≡◌, List, [], ◌∷◌, Some, Option, true, ap, sym, ◌∙◌, subst, arith, lit<}
use Rattle.atomic_table.specs.Table.{opening}
use Rattle.ch_turn.specs.Rule.{TurnRule}
use Rattle.ch_turn.specs.Views.{first_view}
use Rattle.ch_turn.specs.Plays.{Seated}
use Rattle.ch_turn.specs.Holdings.{has_number, own_entries}
use Rattle.ch_turn.proofs.Ends.{opening_ruled}
use Rattle.ch_turn.proofs.Numbers.{has_number-below, own_entries-below}
use Rattle.ch_turn.proofs.turn.Turn.new.Goals as goal

pub new-requires : goal.new-requires
new-requires g c =
    let e : c.push.new.self.items ≡ Some c.args.value ∷ [] = search rules in
    subst (λ (l : List (Option g.row.V.Denot)). TurnRule g.V.Listed.list g.V.Listed.by g.V.Listed.news (g.V.Listed.alike c.of-first.result.value) c.args.turns (opening (0 ∷ 0 ∷ 0 ∷ []) l (first_view c.args.turns))) (sym e)
    (opening_ruled g.V.Listed.list g.V.Listed.by g.V.Listed.news (g.V.Listed.alike c.of-first.result.value) c.args.turns c.args.value (omega arith) c.requires.empty.0 c.requires.empty.1 (subst (λ (z : g.row.V.Denot). g.V.Listed.alike z c.args.value) (sym c.of-first.ensures) c.requires.alike))

pub invariant_of-result-2-clause-own_held : goal.invariant_of-result-2-clause-own_held
invariant_of-result-2-clause-own_held g c =
    (lit< tt, subst (λ (m : Seated g.row.V.Denot g.row.V-Entry.Denot). has_number 65535 m.0.holdings ≡ true) (sym c.in-Ok.ensures.ok.4) (has_number-below g.row.V-Entry.Denot 65535 65536 (lit< tt)))

pub returns-clause-numbers : goal.returns-clause-numbers
returns-clause-numbers g c = λ n lt. subst (λ (m : Seated g.row.V.Denot g.row.V-Entry.Denot). has_number n m.0.holdings ≡ true) (sym c.in-Ok.ensures.ok.4) (has_number-below g.row.V-Entry.Denot n 65536 lt)

pub returns-clause-blank : goal.returns-clause-blank
returns-clause-blank g c = let e = c.in-Ok.ensures.ok.4 in (
  ap (λ (m : Seated g.row.V.Denot g.row.V-Entry.Denot). m.0.seen) e,
  ap (λ (m : Seated g.row.V.Denot g.row.V-Entry.Denot). m.0.reads) e,
  (λ n. ap (λ (m : Seated g.row.V.Denot g.row.V-Entry.Denot). own_entries n m.0.holdings) e ∙ own_entries-below g.row.V-Entry.Denot n 65536),
)
