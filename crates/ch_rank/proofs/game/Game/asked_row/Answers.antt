use Rattle.std.proofs.Common.{◌≡◌, ℕ, List, ◌<◌, ◌≤◌, length, subst, ap, ◌∙◌, arith, IfSome}
use Rattle.std.specs.List.{All}
use Rattle.ch_rank.specs.Search.{Game, costed}
use Rattle.ch_rank.specs.Board.{known_by}
use Rattle.ch_rank.proofs.Rowing.{row_facts}
use Rattle.ch_rank.proofs.game.Game.asked_row.Goals as goal

pub returns-clause-row : goal.returns-clause-row
returns-clause-row c =
    let n = ap (λ (g : Game). length g.points) c.self.view_is in
    let f = row_facts (known_by c.args.outcomes.now) c.self.inside.asked (length c.self.inside.trials.points) c.costed.result (c.costed.ensures ∙ ap (costed (known_by c.args.outcomes.now)) c.as_slice.ensures.value) (omega (arith, ap length c.as_slice.ensures.value, c.as_slice.ensures.few)) c.self.invariant.asked_in in
    subst (λ k. IfSome c.costed.result (λ row. (length row ≤ 13) × (length row ≡ length c.args.self.now.asked) × All (λ u. u.trial < k) row)) n (subst (λ (ts : List ℕ). IfSome c.costed.result (λ row. (length row ≤ 13) × (length row ≡ length ts) × All (λ u. u.trial < length c.self.inside.trials.points) row)) (ap (λ (g : Game). g.asked) c.self.view_is) f)
