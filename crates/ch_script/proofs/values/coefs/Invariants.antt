use Rattle.std.proofs.Common.{◌≡◌, ◌-◌, ◌+◌, ◌^◌, ◌++◌, length, map}
use Rattle.std.specs.List.{All}
use Rattle.ch_affine.specs.Affine.{IsAtMost}
use Rattle.ch_script.specs.Values.{coef_between, levels_from}
use Rattle.ch_script.proofs.values.coefs.Given as goal

abbrev pub invariant-loop-l : goal.invariant-loop-l
invariant-loop-l l = record {
  rest : l.coefs ++ map (coef_between l.more l.less) (levels_from (l.levels - l.l) (l.l + 1)) ≡ map (coef_between l.more l.less) (levels_from l.levels 1);
  count : length l.coefs ≡ l.l;
  small : All (IsAtMost (2 ^ 60)) l.coefs;
}
