use Rattle.std.proofs.Common.{◌≡◌, ◌++◌, take}
use Rattle.std.specs.List.{flat_map}
use Rattle.ch_run.specs.EvalText.{program_text}
use Rattle.ch_run.proofs.eval.put_programs.Given as goal

abbrev pub invariant-loop-program : goal.invariant-loop-program
invariant-loop-program l = l.out ≡ l.initial.out ++ flat_map (program_text l.sums) (take l.program-index l.programs)
