use Rattle.std.proofs.Common.{◌≡◌, take}
use Rattle.ch_tile.specs.Layout.{untiled}
use Rattle.ch_tile.proofs.layout.untiled.Given as goal

abbrev pub invariant-loop-around : goal.invariant-loop-around
invariant-loop-around l = l.forms ≡ take l.around (untiled l.levels l.outer)

abbrev pub invariant-loop-within : goal.invariant-loop-within
invariant-loop-within l = l.forms ≡ take l.within (untiled l.levels l.outer)
