use Rattle.std.proofs.Common.{map, pos}
use Rattle.ch_check.specs.PieceText.{piece_ends, piece_front, piece_line, piece_text}
use Rattle.ch_check.proofs.PieceLines.{both_added, line_is, same_added}
use Rattle.ch_space.specs.Members.{members}
use Rattle.ch_check.proofs.pieces.put_piece.Goals as goal

pub returns : goal.returns
returns c =
    let list = c.args.space.now.list in
    let first = c.in_ok-first.first in
    let last = c.in_ok-first.last in
    same_added c.put_ends.result c.args.out.now c.put_ends.new.out
    (piece_text c.args.number c.label.result (map pos c.places.result.now) c.piece_count.result first last)
    (piece_line c.args.number (members list c.args.number))
    (line_is list c.args.number c.piece_count.result c.label.result (map pos c.places.result.now) first last
    c.in_ok-first.ensures.first c.in_ok-first.ensures.last c.label.ensures c.piece_count.ensures c.places.ensures)
    (both_added c.put_ends.result c.args.out.now c.put_front.new.out c.put_ends.new.out (piece_front c.args.number c.label.result (map pos c.places.result.now))
    (piece_ends c.piece_count.result first last) c.in_ok-put_front.ensures c.put_ends.ensures)
