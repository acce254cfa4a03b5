use Rattle.std.proofs.Common.{◌≡◌, List, length, take, get_or, ap, ◌∙◌, subst, arith}
use Rattle.ch_rank.specs.declared.outcome.Costed.{Costed}
use Rattle.ch_rank.specs.Search.{Game, best, place_of_best}
use Rattle.ch_rank.specs.Board.{source, ask_one}
use Rattle.ch_rank.proofs.Asking.{try_one, try_past, none}
use Rattle.ch_rank.proofs.game.Game.ask_try.Goals as goal

pub returns-then-from-places : goal.returns-then-from-places
returns-then-from-places c =
    let s = ap (λ (g : Game). g.simplex) c.self.view_is in
    let k = ap (λ (g : Game). g.kept) c.self.view_is in
    let row : c.as_slice.result.now ≡ c.args.self.now.simplex = c.as_slice.ensures.value ∙ s in
    let top = subst (λ (cs : List Costed). get_or cs c.place_of_best-best.result (best cs) ≡ best cs) row c.place_of_best-best.ensures.best in
    try_one c.args.self.now c.begin.new.self c.ask_row.new.self c.place_of_best-best.result c.source-from.result c.trial_at-top.result c.trial_at-trial.result (take (length c.args.self.now.sizes) c.shifted-row.result) none
    c.begin.ensures (c.place_of_best-best.ensures.value ∙ ap place_of_best row) (omega (arith, c.place_of_best-best.ensures.here, ap length row))
    (c.source-from.ensures ∙ ap (source c.place_of_best-best.result) (c.place_of_best.ensures.value ∙ ap place_of_best (c.as_slice-2.ensures.value ∙ k)))
    (omega (arith, c.if-from-places.true, ap length (c.as_slice-places.ensures.value ∙ s)))
    (c.trial_at-top.ensures.value (best c.args.self.now.simplex) ∙ ap (λ (d : Costed). d.trial) top) (c.trial_at-trial.ensures.value none) c.shifted-row.ensures.value (c.ask_row.ensures ∙ ap (λ n. ask_one c.begin.new.self (take n c.shifted-row.result)) (ap (λ (g : Game). length g.sizes) c.begin.ensures))

pub returns-else-from-places : goal.returns-else-from-places
returns-else-from-places c =
    let s = ap (λ (g : Game). g.simplex) c.self.view_is in
    let k = ap (λ (g : Game). g.kept) c.self.view_is in
    let row : c.as_slice.result.now ≡ c.args.self.now.simplex = c.as_slice.ensures.value ∙ s in
    try_past c.args.self.now c.begin-else-from-places.new.self c.place_of_best-best.result c.source-from.result
    c.begin-else-from-places.ensures (c.place_of_best-best.ensures.value ∙ ap place_of_best row) (omega (arith, c.place_of_best-best.ensures.here, ap length row))
    (c.source-from.ensures ∙ ap (source c.place_of_best-best.result) (c.place_of_best.ensures.value ∙ ap place_of_best (c.as_slice-2.ensures.value ∙ k)))
    (omega (arith, c.if-from-places.false, ap length (c.as_slice-places.ensures.value ∙ s)))
