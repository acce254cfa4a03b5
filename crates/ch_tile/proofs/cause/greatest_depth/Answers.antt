use Rattle.std.proofs.Common.{arith}
use Rattle.ch_timed.specs.Timed.{pieces}
use Rattle.ch_tile.specs.Tiled.{new_depth}
use Rattle.ch_tile.proofs.Steps.{next_greatest}
use Rattle.ch_tile.proofs.cause.greatest_depth.Goals as goal

pub loop-number-preserved : goal.loop-number-preserved
loop-number-preserved c =
    next_greatest (new_depth c.args.space.now.list c.args.ours c.args.outer) (pieces c.args.space.now.list) c.loop-number.number _ _ _ (omega (arith, c.pieces-number-end.ensures)) c.loop-number.invariant c.new_depth.ensures c.max-greatest.ensures
