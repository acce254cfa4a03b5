use Rattle.std.proofs.Common.{◌≡◌, get_or, map}
use Rattle.ch_moved.specs.Room.{origin_range}
use Rattle.std.specs.List.{range_with_len}
use Rattle.ch_permute.specs.Turned.{source}
use Rattle.ch_permute.proofs.ranges.turned_boxes.Given as goal

abbrev pub invariant-loop-k : goal.invariant-loop-k
invariant-loop-k l = l.turned ≡ map (λ k. get_or l.boxes (source l.order k) origin_range) (range_with_len 0 l.k)
