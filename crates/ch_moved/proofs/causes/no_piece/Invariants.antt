use Rattle.std.proofs.Common.{◌≡◌, drop}
use Rattle.ch_moved.specs.Causes.{no_piece}
use Rattle.ch_moved.proofs.causes.no_piece.Given as goal

abbrev pub invariant-loop-number : goal.invariant-loop-number
invariant-loop-number l = no_piece l.space.list l.numbers ≡ no_piece l.space.list (drop l.number-index l.numbers)
