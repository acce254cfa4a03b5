use Rattle.ch_tile.proofs.Steps.{boxes_are, boxes_made}
use Rattle.ch_moved.specs.Room.{origin_range}
use Rattle.ch_tile.proofs.layout.tiled_boxes.Goals as goal

pub returns-clause-value : goal.returns-clause-value
returns-clause-value c d =
    boxes_made c.args.outer c.args.level c.args.size c.args.boxes.now _ _ _ _ _ _ _ d _ c.requires.level c.split_at.ensures.front c.split_at.ensures.back c.in_ok-new.ensures c.in_ok-push_ranges.ensures
    c.tiles_of.ensures.value c.in_ok-push.ensures.ok c.in_ok-push_ranges-2.ensures

pub returns-clause-ranges : goal.returns-clause-ranges
returns-clause-ranges c =
    boxes_are c.args.outer c.args.level c.args.size c.args.boxes.now _ origin_range c.requires.level c.requires.some c.requires.ranges
    (boxes_made c.args.outer c.args.level c.args.size c.args.boxes.now _ _ _ _ _ _ _ origin_range _ c.requires.level c.split_at.ensures.front c.split_at.ensures.back c.in_ok-new.ensures c.in_ok-push_ranges.ensures
    c.tiles_of.ensures.value c.in_ok-push.ensures.ok c.in_ok-push_ranges-2.ensures)
