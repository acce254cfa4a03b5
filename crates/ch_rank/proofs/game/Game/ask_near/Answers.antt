use Rattle.std.proofs.Common.{ℕ, List, length, take, ap, ◌∙◌, arith}
use Rattle.ch_rank.specs.Moves.{beside}
use Rattle.ch_rank.specs.Board.{finish}
use Rattle.ch_rank.specs.Search.{Game}
use Rattle.ch_rank.proofs.Beside.{beside_few}
use Rattle.ch_rank.proofs.Turning.{turning_more}
use Rattle.ch_rank.proofs.game.Game.ask_near.Goals as goal

pub loop-k-preserved : goal.loop-k-preserved
loop-k-preserved c =
    turning_more c.begin.new.self c.loop-k.self c.ask_beside.new.self (beside c.begin.new.self.sizes (take (length c.begin.new.self.sizes) c.row_of-row.result)) (length c.begin.new.self.sizes) c.loop-k.k c.loop-k.invariant
    (omega (arith, c.loop-k-test.true, ap (λ (v : List ℕ). length v) c.sizes-dims.ensures.value, ap (λ (g : Game). length g.sizes) c.self.view_is, ap (λ (g : Game). length g.sizes) c.begin.ensures))
    (beside_few c.begin.new.self.sizes (take (length c.begin.new.self.sizes) c.row_of-row.result) c.loop-k.k)
    (c.ask_beside.ensures ∙ ap (λ (ns : List ℕ). finish c.loop-k.self (beside ns (take (length ns) c.row_of-row.result) c.loop-k.k)) c.loop-k.invariant.sizes)
