use Rattle.std.proofs.Common.{take}
use Rattle.ch_affine.specs.Rows.{IsBox}
use Rattle.ch_timed.specs.Members.{Each}
use Rattle.ch_codegen.specs.Parts.{BeginsSome, Covers, EndsSome}
use Rattle.ch_codegen.proofs.runs.shared_range.Given as goal

abbrev pub invariant-loop-piece : goal.invariant-loop-piece
invariant-loop-piece l = record {
  fits : IsBox l.range;
  covers : Each (Covers l.depth l.range) (take l.piece-index l.pieces);
  low : BeginsSome l.depth l.range.low l.pieces;
  high : EndsSome l.depth l.range.high l.pieces;
}
