use Rattle.std.proofs.Common.{take}
use Rattle.ch_codegen.specs.Bounds.{Thins}
use Rattle.ch_codegen.proofs.tight.unsaid.Given as goal

abbrev pub invariant-loop-bound : goal.invariant-loop-bound
invariant-loop-bound l = Thins l.is_low l.added (take l.bound-index l.bounds) l.kept
