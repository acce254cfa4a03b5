use Rattle.std.proofs.Common.{◌≡◌, drop}
use Rattle.ch_workload.specs.Fills.{is_filled}
use Rattle.ch_workload.proofs.fills.is_filled.Given as goal

abbrev pub invariant-loop-fill : goal.invariant-loop-fill
invariant-loop-fill l = is_filled l.program l.array (drop l.fill-index l.fills) ≡ is_filled l.program l.array l.fills
