use Rattle.std.proofs.Common.{◌≡◌, ◌<◌, ◌^◌, drop, filter, map, pos}
use Rattle.std.specs.Int.{int_max}
use Rattle.ch_fuse.specs.Fused.{greatest, in_groups, place_at}
use Rattle.ch_timed.specs.Timed.{pieces}
use Rattle.ch_fuse.proofs.fusing.body_width.Given as goal

abbrev pub invariant-loop-k : goal.invariant-loop-k
invariant-loop-k l = record {
  whole : int_max (pos l.greatest) (greatest (map (place_at l.level) (filter (in_groups l.space.list l.numbers (pos l.level)) (drop l.k (pieces l.space.list)))))
      ≡ greatest (map (place_at l.level) (filter (in_groups l.space.list l.numbers (pos l.level)) (pieces l.space.list)));
  small : l.greatest < 2 ^ 32;
}
