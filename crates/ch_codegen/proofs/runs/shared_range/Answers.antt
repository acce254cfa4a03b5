use Rattle.std.proofs.Common.{subst}
use Rattle.ch_codegen.specs.Parts.{Widens}
use Rattle.ch_codegen.proofs.Steps.{begins_more, covers_more, ends_more, first_begins}
use Rattle.ch_codegen.proofs.runs.shared_range.Goals as goal

pub loop-piece-init : goal.loop-piece-init
loop-piece-init c =
    let ends = first_begins c.args.pieces.now c.args.depth c.index-pieces-0.result c.range_of-range.result c.requires.some c.index-pieces-0.is c.range_of-range.ensures.value in
    record { fits = c.range_of-range.ensures.fits; covers = tt; low = ends.0; high = ends.1 }

pub loop-piece-preserved : goal.loop-piece-preserved
loop-piece-preserved c = record {
  fits = c.joined-range.ensures.fits;
  covers = covers_more c.args.pieces.now c.loop-piece.piece-index c.args.depth c.loop-piece.range c.joined-range.result c.piece-item.result c.loop-piece-test.true c.piece-item.is
      c.loop-piece.invariant.covers c.joined-range.ensures.ours (subst (λ r. Widens r c.joined-range.result) c.range_of.ensures.value c.joined-range.ensures.theirs);
  low =
      begins_more c.args.pieces.now c.loop-piece.piece-index c.args.depth c.piece-item.result c.loop-piece.range c.range_of.result c.joined-range.result.low c.loop-piece-test.true c.piece-item.is
      c.range_of.ensures.value c.loop-piece.invariant.low c.joined-range.ensures.low;
  high =
      ends_more c.args.pieces.now c.loop-piece.piece-index c.args.depth c.piece-item.result c.loop-piece.range c.range_of.result c.joined-range.result.high c.loop-piece-test.true c.piece-item.is
      c.range_of.ensures.value c.loop-piece.invariant.high c.joined-range.ensures.high;
}
