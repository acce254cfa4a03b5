use Rattle.std.proofs.Common.{◌≤◌, ◌^◌, take}
use Rattle.ch_datacopy.specs.Widths.{IsWidth}
use Rattle.ch_datacopy.proofs.widths.width.Given as goal

abbrev pub invariant-loop-first : goal.invariant-loop-first
invariant-loop-first l = record {
  width : IsWidth l.around l.cells l.k (take l.first-index l.all) l.all l.wide;
  near : l.wide ≤ 2 ^ 19;
}
