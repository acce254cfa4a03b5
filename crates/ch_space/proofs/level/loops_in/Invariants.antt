use Rattle.std.proofs.Common.{◌≡◌, ◌+◌, drop}
use Rattle.ch_space.specs.Statements.{loops}
use Rattle.ch_space.proofs.level.loops_in.Given as goal

abbrev pub invariant-loop-part : goal.invariant-loop-part
invariant-loop-part l = l.loops + loops (drop l.part-index l.around) ≡ loops l.around
