use Rattle.std.proofs.Common.{◌≡◌, ◌≤◌, ◌<◌, ◌-◌, pos, map, length}
use Rattle.ch_space.specs.Keeps.{places_of}
use Rattle.ch_unroll.specs.Layouts.{sharing}
use Rattle.ch_unroll.specs.Unrolled.{deepest_shared}
use Rattle.ch_unroll.proofs.layout.deepest_shared.Given as goal

abbrev pub invariant-loop-deepest : goal.invariant-loop-deepest
invariant-loop-deepest l = record {
  from : l.level ≤ l.deepest;
  below : l.deepest < length l.ours;
  same : deepest_shared (l.deepest - l.level) l.level (map pos l.ours) (sharing l.level (map pos l.ours) (map places_of l.pieces))
      ≡ deepest_shared (length l.ours - 1 - l.level) l.level (map pos l.ours) (sharing l.level (map pos l.ours) (map places_of l.pieces));
}

abbrev pub decreases-loop-deepest : goal.decreases-loop-deepest
decreases-loop-deepest l = l.deepest
