use Rattle.std.proofs.Common.{◌≤◌, ◌≤ℤ◌, ◌+◌, ◌*◌, ◌-◌, ◌+ℤ◌, ◌-ℤ◌, pos, cond, length, map, take, drop}
use Rattle.ch_code.specs.Trace.{trace, one_by_one}
use Rattle.ch_poly.specs.Points.{natural}
use Rattle.ch_timed.specs.Members.{Each}
use Rattle.ch_codegen.specs.Around.{IsAround}
use Rattle.ch_codegen.specs.Formed.{IsFormed}
use Rattle.ch_codegen.specs.Parts.{AllPrecede, IsAmong, IsTurn, Lists}
use Rattle.ch_codegen.proofs.generator.+code.Given as goal

abbrev pub decreases-code_of : goal.decreases-code_of
decreases-code_of l = 16 * (4097 - l.around.depth) + cond l.around.known 0 8 + 6

abbrev pub decreases-run_code : goal.decreases-run_code
decreases-run_code l = 16 * (4097 - l.around.depth) + cond l.around.known 0 8 + 5

abbrev pub decreases-guarded_code : goal.decreases-guarded_code
decreases-guarded_code l = 16 * (4097 - l.around.depth) + 8 + 4

abbrev pub decreases-loop_code : goal.decreases-loop_code
decreases-loop_code l = 16 * (4097 - l.around.depth) + cond l.around.known 0 8 + 3

abbrev pub decreases-hull_code : goal.decreases-hull_code
decreases-hull_code l = 16 * (4097 - l.around.depth) + cond l.around.known 0 8 + 1

abbrev pub decreases-cut_code : goal.decreases-cut_code
decreases-cut_code l = 16 * (4097 - l.around.depth) + cond l.around.known 0 8 + 2

abbrev pub decreases-stretch_code : goal.decreases-stretch_code
decreases-stretch_code l = 16 * (4097 - l.around.depth) + cond l.around.known 0 8

abbrev pub invariant-code_of-loop-start : goal.invariant-code_of-loop-start
invariant-code_of-loop-start l = record {
  within : l.start ≤ length l.pieces;
  lists : Lists (IsAround l.around.depth l.around.known l.pieces) (IsAmong (take l.start l.pieces)) (one_by_one (map trace l.parts));
  formed : Each (IsFormed l.around.depth l.pieces) l.parts;
  precede : AllPrecede l.around.depth (take l.start l.pieces) (drop l.start l.pieces);
}

abbrev pub decreases-code_of-loop-start : goal.decreases-code_of-loop-start
decreases-code_of-loop-start l = length l.pieces - l.start

abbrev pub invariant-cut_code-loop-low : goal.invariant-cut_code-loop-low
invariant-cut_code-loop-low l = record {
  after : l.whole.low ≤ℤ l.low;
  lists : Lists (IsAround l.fn.around.depth l.fn.around.known l.run) (IsTurn l.whole.low (l.low -ℤ pos 1) l.run) (one_by_one (map trace l.parts));
  formed : Each (IsFormed l.fn.around.depth l.run) l.parts;
}

abbrev pub decreases-cut_code-loop-low : goal.decreases-cut_code-loop-low
decreases-cut_code-loop-low l = natural ((l.whole.high +ℤ pos 1) -ℤ l.low)
