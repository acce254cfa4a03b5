use Rattle.std.proofs.Common.{◌^◌, subst, sym}
use Rattle.ch_datacopy.proofs.Freed.{freed_end, freed_more}
use Rattle.ch_datacopy.proofs.labels.free_label.Goals as goal
use Rattle.ch_space.specs.declared.piece.Piece.{Piece}
use Rattle.ch_space.specs.Keeps.{IsMoveBelow}

pub next_label-free-requires-clause-label : goal.next_label-free-requires-clause-label
next_label-free-requires-clause-label c =
    subst (λ (z : Piece). IsMoveBelow (2 ^ 13) z.label) (sym c.piece-item.is) (c.requires c.loop-piece.piece-index c.piece-item.result c.loop-piece-test.true)

pub loop-piece-preserved : goal.loop-piece-preserved
loop-piece-preserved c = record {
  value = freed_more c.args.pieces.now c.loop-piece.piece-index c.piece-item.result c.loop-piece.free c.next_label-free.result _ c.loop-piece-test.true c.piece-item.is c.loop-piece.invariant.value c.next_label-free.ensures.value;
  near = c.next_label-free.ensures.near;
}

pub returns-clause-value : goal.returns-clause-value
returns-clause-value c = freed_end c.args.pieces.now c.loop-piece.piece-index c.loop-piece.free _ c.loop-piece-test.false c.loop-piece.invariant.value
