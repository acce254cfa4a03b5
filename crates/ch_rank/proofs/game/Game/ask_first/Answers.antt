use Rattle.std.proofs.Common.{◌≡◌, ℕ, List, length, take, ap, sym, ◌∙◌, arith}
use Rattle.ch_rank.specs.Moves.{around, centre}
use Rattle.ch_rank.specs.Board.{finish}
use Rattle.ch_rank.specs.Search.{Game}
use Rattle.ch_rank.proofs.Turning.{turning_more, first_asked}
use Rattle.ch_rank.proofs.game.Game.ask_first.Goals as goal

pub loop-k-preserved : goal.loop-k-preserved
loop-k-preserved c =
    turning_more c.ask_row.new.self c.loop-k.self c.ask_around.new.self (around c.ask_row.new.self.sizes (take (length c.ask_row.new.self.sizes) c.centre-row.result)) (length c.ask_row.new.self.sizes) c.loop-k.k c.loop-k.invariant
    (omega (arith, c.loop-k-test.true, ap (λ (v : List ℕ). length v) c.sizes-dims.ensures.value, ap (λ (g : Game). length g.sizes) c.self.view_is, ap (λ (g : Game). length g.sizes) c.ask_row.ensures))
    (omega arith)
    (c.ask_around.ensures ∙ ap (λ (ns : List ℕ). finish c.loop-k.self (around ns (take (length ns) c.centre-row.result) c.loop-k.k)) c.loop-k.invariant.sizes)

pub returns : goal.returns
returns c =
    let z = ap (λ (g : Game). g.sizes) c.self.view_is in
    let n = ap (λ (g : Game). g.sizes) c.ask_row.ensures in
    let row : take (length c.args.self.now.sizes) c.centre-row.result ≡ centre c.args.self.now.sizes = ap (λ (ns : List ℕ). take (length ns) c.centre-row.result) (sym (c.sizes.ensures.value ∙ z)) ∙ (c.centre-row.ensures.value ∙ ap centre (c.sizes.ensures.value ∙ z)) in
    first_asked c.args.self.now c.ask_row.new.self c.loop-k.self c.centre-row.result c.loop-k.k c.requires c.ask_row.ensures row c.loop-k.invariant
    (omega (arith, c.loop-k-test.false, c.loop-k.auto.k-end, ap (λ (v : List ℕ). length v) c.sizes-dims.ensures.value, ap (λ (g : Game). length g.sizes) c.self.view_is))
