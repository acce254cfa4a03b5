use Rattle.std.proofs.Common.{filter, map, pos, arith}
use Rattle.ch_fuse.specs.Fused.{in_groups, place_at}
use Rattle.ch_fuse.proofs.Extremes.{none_greater}
use Rattle.ch_timed.specs.Timed.{pieces}
use Rattle.ch_fuse.proofs.fusing.body_width.Goals as goal

pub loop-k-init : goal.loop-k-init
loop-k-init c = record {
  whole = none_greater (map (place_at c.args.level) (filter (in_groups c.args.space.now.list c.args.numbers.now (pos c.args.level)) (pieces c.args.space.now.list)));
  small = omega arith;
}
