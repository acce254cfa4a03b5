use Rattle.ch_check.specs.PieceText.{piece_line}
use Rattle.ch_check.proofs.PieceLines.{one_more}
use Rattle.ch_space.specs.Members.{members}
use Rattle.ch_check.proofs.pieces.put_pieces.Goals as goal

pub loop-number-preserved : goal.loop-number-preserved
loop-number-preserved c =
    one_more (λ k. piece_line k (members c.args.space.now.list k)) c.loop-number.number c.args.out.now c.loop-number.out c.put_piece.new.out c.loop-number.invariant c.in_ok-put_piece.ensures
