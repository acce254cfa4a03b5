use Rattle.std.proofs.Common.{◌≡◌, ◌-◌, drop, filter, map}
use Rattle.std.proofs.Common.{pos}
use Rattle.ch_fuse.specs.Fused.{in_groups, least, place_at}
use Rattle.ch_timed.specs.Timed.{pieces}
use Rattle.ch_fuse.proofs.Extremes.{least_from}
use Rattle.ch_fuse.proofs.fusing.first_place.Given as goal

abbrev pub invariant-loop-k : goal.invariant-loop-k
invariant-loop-k l =
    least_from l.least (map (place_at (l.level - 1)) (filter (in_groups l.space.list l.numbers (pos l.level)) (drop l.k (pieces l.space.list))))
    ≡ least (map (place_at (l.level - 1)) (filter (in_groups l.space.list l.numbers (pos l.level)) (pieces l.space.list)))
