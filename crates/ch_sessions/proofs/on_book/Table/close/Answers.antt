use Rattle.std.proofs.Common.{◌≡◌, List, Option, [], ◌∷◌, ◌++◌, subst, arith, All}
use Rattle.std.specs.Option.{option_to_list}
use Rattle.std.proofs.lemmas.List.Elements.{All-pop}
use Rattle.ch_sessions.specs.Desks.{DeskFits, SeatsAre}
use Rattle.ch_sessions.specs.declared.desk.Desk.{Desk}
use Rattle.ch_sessions.proofs.Seated.{last_less, none_out}
use Rattle.ch_sessions.proofs.on_book.Table.close.Goals as goal

pub loop-desk-preserved : goal.loop-desk-preserved
loop-desk-preserved c =
    let b = c.args.self.shared.book in
    let r : List Desk = c.pop.new.self.items in
    let s : SeatsAre b c.loop-desk.rest (r ++ option_to_list c.pop.result) = subst (λ (v : List Desk). SeatsAre b c.loop-desk.rest v) c.pop.ensures.items c.loop-desk.invariant in
    let q : SeatsAre b c.loop-desk.rest (r ++ c.in-Some.desk ∷ []) = subst (λ (o : Option Desk). SeatsAre b c.loop-desk.rest (r ++ option_to_list o)) c.in-Some.is s in
    last_less b c.loop-desk.rest c.take_in.new.rest r c.in-Some.desk q c.take_in.ensures.rest c.take_in.ensures.ours c.take_in.ensures.theirs (All-pop (λ (d : Desk). DeskFits b d.seat d.jobs.items) c.loop-desk.desks.items r c.pop.result c.pop.ensures.items c.loop-desk.invariant.desks).0

pub close-requires-clause-numbers : goal.close-requires-clause-numbers
close-requires-clause-numbers c = λ n small. c.loop-desk.invariant.held n small (none_out n c.loop-desk.desks.items (omega (arith, c.in_default.ensures.cases.0)))
