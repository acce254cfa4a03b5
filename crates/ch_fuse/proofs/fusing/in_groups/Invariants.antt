use Rattle.std.proofs.Common.{◌≡◌, None, drop, map, pos}
use Rattle.ch_fuse.specs.Fused.{in_groups}
use Rattle.ch_moved.specs.Causes.{no_piece}
use Rattle.ch_fuse.proofs.fusing.in_groups.Given as goal

abbrev pub invariant-loop-number : goal.invariant-loop-number
invariant-loop-number l = record {
  rest : in_groups l.space.list l.numbers (pos l.level) (map pos l.theirs) ≡ in_groups l.space.list (drop l.number-index l.numbers) (pos l.level) (map pos l.theirs);
  named : no_piece l.space.list (drop l.number-index l.numbers) ≡ None;
}
