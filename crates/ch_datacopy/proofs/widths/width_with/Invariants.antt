use Rattle.std.proofs.Common.{◌≤◌, ◌^◌, [], ◌∷◌, take}
use Rattle.ch_datacopy.specs.Widths.{IsWidth}
use Rattle.ch_datacopy.proofs.widths.width_with.Given as goal

abbrev pub invariant-loop-other : goal.invariant-loop-other
invariant-loop-other l = record {
  width : IsWidth l.around l.cells l.k (l.first ∷ []) (take l.other-index l.others) l.wide;
  near : l.wide ≤ 2 ^ 19;
}
