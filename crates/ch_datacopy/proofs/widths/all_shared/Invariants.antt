use Rattle.std.proofs.Common.{◌≡◌, ◌++◌, drop}
use Rattle.std.specs.List.{All}
use Rattle.ch_affine.specs.Rows.{IsBox}
use Rattle.ch_datacopy.specs.Pairs.{all_shared}
use Rattle.ch_datacopy.proofs.widths.all_shared.Given as goal

abbrev pub invariant-loop-k : goal.invariant-loop-k
invariant-loop-k l = record {
  same : l.ranges ++ all_shared (drop l.k l.firsts) (drop l.k l.seconds) ≡ all_shared l.firsts l.seconds;
  boxes : All IsBox l.ranges;
}
