use Rattle.std.proofs.Common.{◌≡◌, take}
use Rattle.ch_codegen.proofs.units.copied_temps.Given as goal

abbrev pub invariant-loop-extents : goal.invariant-loop-extents
invariant-loop-extents l = l.copy ≡ take l.extents-index l.temps
