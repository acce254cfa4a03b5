use Rattle.std.proofs.Common.{◌≡◌, ◌-◌, ◌^◌, ◌++◌, length, map}
use Rattle.std.specs.List.{All, range_with_len}
use Rattle.ch_affine.specs.Affine.{IsAtMost}
use Rattle.ch_script.specs.Requirements.{weight_between}
use Rattle.ch_script.proofs.requirements.weights.Given as goal

abbrev pub invariant-loop-k : goal.invariant-loop-k
invariant-loop-k l = record {
  rest : l.weights ++ map (weight_between l.more l.less) (range_with_len l.k (l.params - l.k)) ≡ map (weight_between l.more l.less) (range_with_len 0 l.params);
  count : length l.weights ≡ l.k;
  small : All (IsAtMost (2 ^ 60)) l.weights;
}
