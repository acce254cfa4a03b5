use Rattle.std.proofs.Common.{rules, ℕ, List, ◌∷◌, Some, sym, ap, ◌∙◌, Option}
use Rattle.atomic_table.specs.Table.{rest}
use Rattle.ch_turn.specs.Plays.{Seated}
use Rattle.ch_turn.proofs.Turns.{look_allowed}
use Rattle.ch_turn.proofs.turn.Turn.take.Goals as goal

pub load-now_serving-requires : goal.load-now_serving-requires
load-now_serving-requires g c = (c.loop.invariant.0 ∙ c.requires.table, search rules, look_allowed _ _ _ _ _ _ c.requires.kin _ _ _ c.args.ticket (ap (λ (m : Seated g.row.V.Denot g.row.V-Entry.Denot). m.0.stage) c.loop.invariant.2 ∙ c.requires.waits.0))

pub exchange-requires : goal.exchange-requires
exchange-requires g c =
    let is = ap (λ (m : Seated g.row.V.Denot g.row.V-Entry.Denot). m.0.stage) c.loop.invariant.2 ∙ c.requires.waits.0 in
    let t = (c.load-now_serving.ensures.2 c.args.ticket is).0 c.if-now_serving-ticket.true in
    (c.load-now_serving.ensures.0 ∙ (c.loop.invariant.0 ∙ c.requires.table), (Some t.0, t.1 ∙ sym (ap (λ (l : List (ℕ × Option g.row.V.Denot)). (0, Some t.0) ∷ rest l) t.1)))

pub loop-preserved : goal.loop-preserved
loop-preserved g c =
    let is = ap (λ (m : Seated g.row.V.Denot g.row.V-Entry.Denot). m.0.stage) c.loop.invariant.2 ∙ c.requires.waits.0 in
    let t = (c.load-now_serving.ensures.2 c.args.ticket is).1 c.if-now_serving-ticket.false in
    (c.load-now_serving.ensures.0 ∙ c.loop.invariant.0, c.load-now_serving.ensures.1 ∙ c.loop.invariant.1, t ∙ c.loop.invariant.2)
