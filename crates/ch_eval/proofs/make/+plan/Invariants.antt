use Rattle.std.proofs.Common.{take}
use Rattle.ch_plan.specs.Ready.{extents_in}
use Rattle.ch_eval.specs.Made.{ArePlans, Grows}
use Rattle.ch_eval.proofs.make.+plan.Given as goal

abbrev pub invariant-plans_of-loop-part : goal.invariant-plans_of-loop-part
invariant-plans_of-loop-part l = record {
  grows : Grows l.fn.needs l.needs;
  plans : ArePlans (extents_in l.arrays) l.around l.needs (take l.part-index l.parts) l.plans;
}
