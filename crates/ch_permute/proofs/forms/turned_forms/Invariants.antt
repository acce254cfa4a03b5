use Rattle.std.proofs.Common.{◌≡◌, ◌-◌, map}
use Rattle.std.specs.List.{range_with_len}
use Rattle.ch_permute.specs.Turned.{target}
use Rattle.ch_space.specs.Built.{unit}
use Rattle.ch_permute.proofs.forms.turned_forms.Given as goal

abbrev pub invariant-loop-k : goal.invariant-loop-k
invariant-loop-k l = l.forms ≡ map (λ k. unit (target l.order k) (l.levels - 1 - target l.order k)) (range_with_len 0 l.k)
