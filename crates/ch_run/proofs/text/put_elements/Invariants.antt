use Rattle.std.proofs.Common.{◌≡◌, ◌++◌, take}
use Rattle.std.specs.List.{flat_map}
use Rattle.ch_run.specs.EvalText.{element_text}
use Rattle.ch_run.proofs.text.put_elements.Given as goal

abbrev pub invariant-loop-z : goal.invariant-loop-z
invariant-loop-z l = l.out ≡ l.initial.out ++ flat_map element_text (take l.z-index l.cells)
