use Rattle.std.proofs.Common.{◌≡◌, ◌≢◌, ◌∙◌, List, arith, subst, All}
use Rattle.std.proofs.lemmas.List.{take_all}
use Rattle.std.proofs.lemmas.List.Elements.{All-more}
use Rattle.ch_book.specs.Books.{number_of}
use Rattle.ch_sessions.specs.declared.desk.Desk.{Desk}
use Rattle.ch_sessions.proofs.Seated.{not_out}
use Rattle.ch_sessions.proofs.on_book.Table.place_of.Goals as goal

pub loop-place-preserved : goal.loop-place-preserved
loop-place-preserved c = All-more (λ (d : Desk). number_of d.seat ≢ c.args.number) c.args.self.now.desks.items c.loop-place.place c.index.result.now (omega (arith, c.len-place-end.ensures)) c.loop-place.invariant
    (subst (λ (d : Desk). number_of d.seat ≢ c.args.number) c.index.ensures (λ e. omega (arith, c.number.ensures.value, e)))

pub returns-clause-none : goal.returns-clause-none
returns-clause-none c = λ e. not_out c.args.number c.args.self.now.desks.items
    (subst (λ (v : List Desk). All (λ (d : Desk). number_of d.seat ≢ c.args.number) v) (take_all c.loop-place.place c.args.self.now.desks.items (omega (arith, c.len-place-end.ensures))) c.loop-place.invariant)
