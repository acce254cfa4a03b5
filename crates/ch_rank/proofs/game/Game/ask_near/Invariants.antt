use Rattle.std.proofs.Common.{take, length}
use Rattle.ch_rank.specs.Moves.{beside}
use Rattle.ch_rank.proofs.Turning.{Turning}
use Rattle.ch_rank.proofs.game.Game.ask_near.Given as goal

abbrev pub invariant-loop-k : goal.invariant-loop-k
invariant-loop-k l = Turning l.initial.self (beside l.initial.self.sizes (take (length l.initial.self.sizes) l.row)) (length l.initial.self.sizes) l.k l.self
