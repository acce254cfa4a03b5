use Rattle.std.proofs.Common.{subst}
use Rattle.std.specs.List.{flat_map}
use Rattle.std.proofs.lemmas.List.{take_all}
use Rattle.ch_space.specs.Following.{IsNext}
use Rattle.ch_space.specs.Pieces.{elements}
use Rattle.ch_space.proofs.EndsOf.{near_in}
use Rattle.ch_space.proofs.NextElements.{next_listed, next_more}
use Rattle.ch_space.proofs.PieceElements.{whole_in}
use Rattle.ch_space.proofs.PieceNumbers.{item_in}
use Rattle.ch_space.proofs.after.next_of.Goals as goal

pub element_after-requires-clause-whole : goal.element_after-requires-clause-whole
element_after-requires-clause-whole c =
    whole_in c.args.pieces.now c.piece-item.result c.requires.apart (item_in c.args.pieces.now c.loop-piece.piece-index c.piece-item.result c.loop-piece-test.true c.piece-item.is)

pub element_after-requires-clause-near : goal.element_after-requires-clause-near
element_after-requires-clause-near c =
    near_in c.args.pieces.now c.piece-item.result (item_in c.args.pieces.now c.loop-piece.piece-index c.piece-item.result c.loop-piece-test.true c.piece-item.is) c.requires.near

pub loop-piece-preserved : goal.loop-piece-preserved
loop-piece-preserved c =
    next_more c.args.vector.now c.args.pieces.now c.piece-item.result c.loop-piece.piece-index c.loop-piece.next c.in_ok-element_after.field-0 c.earlier-next.result c.loop-piece-test.true c.piece-item.is
    c.earlier-next.ensures c.loop-piece.invariant c.in_ok-element_after.ensures

pub returns : goal.returns
returns c =
    next_listed c.args.vector.now c.args.pieces.now c.loop-piece.next c.requires.apart
    (subst (λ ps. IsNext c.args.vector.now (flat_map elements ps) c.loop-piece.next) (take_all c.loop-piece.piece-index c.args.pieces.now c.loop-piece-test.false) c.loop-piece.invariant)
