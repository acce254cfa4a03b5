use Rattle.std.proofs.Common.{ap, ◌∙◌}
use Rattle.ch_space.specs.declared.piece.Piece.{Piece}
use Rattle.ch_datacopy.proofs.Celled.{boxes_made}
use Rattle.ch_datacopy.proofs.cells.use_boxes.Goals as goal

pub returns : goal.returns
returns c =
    boxes_made c.args.piece.now c.args.around c.args.cells.now c.args.iters.now c.as_slice-old.result.now c.new-boxes.result c.push_ranges.new.ranges c.push_ranges-2.new.ranges c.push_ranges-3.new.ranges
    c.push_ranges-4.new.ranges (c.as_slice-old.ensures ∙ ap (λ (q : Piece). q.system.boxes) c.piece.view_is) c.new-boxes.ensures c.in_ok-push_ranges.ensures c.in_ok-push_ranges-2.ensures
    c.in_ok-push_ranges-3.ensures c.in_ok-push_ranges-4.ensures
