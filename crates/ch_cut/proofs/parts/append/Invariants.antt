use Rattle.std.proofs.Common.{◌≡◌, ◌++◌}
use Rattle.ch_cut.proofs.parts.append.Given as goal

abbrev pub invariant-loop-candidate : goal.invariant-loop-candidate
invariant-loop-candidate l = l.candidates ≡ l.fn.candidates ++ l.yielded
