use Rattle.std.proofs.Common.{◌≡◌, map, take}
use Rattle.ch_nest.specs.declared.nest.Sub.{Sub}
use Rattle.ch_datacopy.proofs.cells.forms_of.Given as goal

abbrev pub invariant-loop-sub : goal.invariant-loop-sub
invariant-loop-sub l = l.forms ≡ map (λ (s : Sub). s.form) (take l.sub-index l.subs)
