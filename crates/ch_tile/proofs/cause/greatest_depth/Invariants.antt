use Rattle.std.proofs.Common.{◌≡◌, map, take}
use Rattle.ch_timed.specs.Timed.{pieces}
use Rattle.ch_tile.specs.Tiled.{greatest, new_depth}
use Rattle.ch_tile.proofs.cause.greatest_depth.Given as goal

abbrev pub invariant-loop-number : goal.invariant-loop-number
invariant-loop-number l = l.greatest ≡ greatest (map (new_depth l.space.list l.ours l.outer) (take l.number (pieces l.space.list)))
