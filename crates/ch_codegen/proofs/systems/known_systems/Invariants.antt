use Rattle.std.proofs.Common.{take}
use Rattle.ch_codegen.specs.Parts.{AreSystems}
use Rattle.ch_codegen.proofs.systems.known_systems.Given as goal

abbrev pub invariant-loop-piece : goal.invariant-loop-piece
invariant-loop-piece l = AreSystems (take l.piece-index l.pieces)
