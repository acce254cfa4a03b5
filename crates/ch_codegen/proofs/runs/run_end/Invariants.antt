use Rattle.std.proofs.Common.{◌≡◌, take}
use Rattle.ch_space.specs.declared.piece.Piece.{Piece}
use Rattle.ch_timed.specs.Members.{In}
use Rattle.ch_codegen.specs.Parts.{place}
use Rattle.ch_codegen.proofs.runs.run_end.Given as goal

abbrev pub invariant-loop-k : goal.invariant-loop-k
invariant-loop-k l = (p : Piece) → In p (take l.k l.pieces) → place l.depth p ≡ l.here
