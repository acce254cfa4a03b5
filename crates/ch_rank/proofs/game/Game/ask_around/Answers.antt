use Rattle.std.proofs.Common.{ℕ, List, get_or, ap, ◌∙◌, arith}
use Rattle.ch_rank.specs.Search.{Game}
use Rattle.ch_rank.proofs.Beside.{index_of, size_small}
use Rattle.ch_rank.proofs.game.Game.ask_around.Goals as goal

pub clamped_sum-requires-clause-index : goal.clamped_sum-requires-clause-index
clamped_sum-requires-clause-index c =
    let i = index_of c.args.self.now.sizes c.args.row.now c.args.k c.requires.in_grid c.requires.k in
    omega (arith, i, ap (λ (ns : List ℕ). get_or ns c.args.k 0) (c.sizes.ensures.value ∙ ap (λ (g : Game). g.sizes) c.self.view_is))

pub clamped_sum-requires-clause-n : goal.clamped_sum-requires-clause-n
clamped_sum-requires-clause-n c =
    size_small c.args.self.now.sizes c.sizes.result.now c.args.row.now c.args.k c.requires.in_grid c.requires.k (c.sizes.ensures.value ∙ ap (λ (g : Game). g.sizes) c.self.view_is) c.sizes.ensures.few

pub ask_at-requires-2-clause-index : goal.ask_at-requires-2-clause-index
ask_at-requires-2-clause-index c =
    let i = index_of c.args.self.now.sizes c.args.row.now c.args.k c.requires.in_grid c.requires.k in
    omega (arith, i, c.saturating_sub.ensures, ap (λ (g : Game). get_or g.sizes c.args.k 0) c.ask_at.ensures)
