use Rattle.ch_nest.specs.Arrays.{extents_of}
use Rattle.std.proofs.Common.{◌≡◌, ◌+◌, drop}
use Rattle.ch_space.specs.Judged.{first_leaving}
use Rattle.ch_space.proofs.accesses.leaving_from.Given as goal

abbrev pub invariant-loop-access : goal.invariant-loop-access
invariant-loop-access l = record {
  here : l.here ≡ l.number + l.access-index;
  rest : first_leaving (extents_of l.arrays) l.point l.here (drop l.access-index l.accesses) ≡ first_leaving (extents_of l.arrays) l.point l.number l.accesses;
}
