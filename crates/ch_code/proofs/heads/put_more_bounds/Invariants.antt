use Rattle.std.proofs.Common.{◌≡◌, ◌++◌, take}
use Rattle.std.specs.Prelude.{codes}
use Rattle.std.specs.List.{flat_map}
use Rattle.ch_print.specs.Lists.{behind}
use Rattle.ch_code.specs.LoopText.{bound_text}
use Rattle.ch_code.proofs.heads.put_more_bounds.Given as goal

abbrev pub invariant-loop-bound : goal.invariant-loop-bound
invariant-loop-bound l = l.out ≡ l.initial.out ++ flat_map (behind (codes ", ") (bound_text l.rounding l.around)) (take l.bound-index l.bounds)
