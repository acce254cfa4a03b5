use Rattle.std.proofs.Common.{◌≡◌, ◌++◌}
use Rattle.ch_nest.specs.Fills.{first_filled}
use Rattle.ch_nest.proofs.fills.fill_array.Given as goal

abbrev pub invariant-loop-q : goal.invariant-loop-q
invariant-loop-q l = l.cells ≡ l.initial.cells ++ first_filled l.q l.fill
