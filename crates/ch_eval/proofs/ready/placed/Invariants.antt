use Rattle.std.proofs.Common.{◌≡◌, ◌++◌, pos, take, w64}
use Rattle.std.specs.Int.{int_wrap}
use Rattle.ch_nest.specs.Arrays.{extents_of, total}
use Rattle.ch_plan.specs.Ready.{AreBases, extents_in}
use Rattle.ch_eval.proofs.ready.placed.Given as goal

abbrev pub invariant-loop-array : goal.invariant-loop-array
invariant-loop-array l = record {
  bases : AreBases l.placed;
  base : l.base ≡ int_wrap w64 (pos (total (extents_in l.placed)));
  extents : extents_in l.placed ≡ extents_of (take l.array-index l.arrays);
}

abbrev pub invariant-loop-extents : goal.invariant-loop-extents
invariant-loop-extents l = record {
  bases : AreBases l.placed;
  base : l.base ≡ int_wrap w64 (pos (total (extents_in l.placed)));
  extents : extents_in l.placed ≡ extents_of l.arrays ++ take l.extents-index l.temps;
}
