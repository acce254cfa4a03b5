use Rattle.std.proofs.Common.{◌≡◌, None, drop}
use Rattle.ch_moved.specs.Causes.{no_level, no_piece}
use Rattle.ch_moved.proofs.causes.no_level.Given as goal

abbrev pub invariant-loop-number : goal.invariant-loop-number
invariant-loop-number l = record {
  rest : no_level l.space.list l.numbers l.level ≡ no_level l.space.list (drop l.number-index l.numbers) l.level;
  pieces : no_piece l.space.list (drop l.number-index l.numbers) ≡ None;
}
