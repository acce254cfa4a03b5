use Rattle.std.proofs.Common.{◌≡◌, None, drop, map, pos, take}
use Rattle.ch_moved.specs.Arguments.{natural}
use Rattle.ch_moved.specs.Causes.{first_failing, no_piece}
use Rattle.ch_timed.specs.Groups.{piece}
use Rattle.ch_timed.specs.Vectors.{same_numbers}
use Rattle.ch_fuse.proofs.fusing.first_elsewhere.Given as goal

abbrev pub invariant-loop-number : goal.invariant-loop-number
invariant-loop-number l = record {
  rest : first_failing 5 (λ t. same_numbers (take l.count (map pos l.ours)) (take l.count (piece l.space.list (natural t)))) l.numbers
      ≡ first_failing 5 (λ t. same_numbers (take l.count (map pos l.ours)) (take l.count (piece l.space.list (natural t)))) (drop l.number-index l.numbers);
  named : no_piece l.space.list (drop l.number-index l.numbers) ≡ None;
}
