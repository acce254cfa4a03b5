use Rattle.std.proofs.Common.{take}
use Rattle.ch_nest.specs.Fast.{AreFlat}
use Rattle.ch_nest.proofs.plan.+form.Given as goal

abbrev pub invariant-items_form-loop-item : goal.invariant-items_form-loop-item
invariant-items_form-loop-item l = AreFlat l.arrays l.depth (take l.item-index l.items) l.flat
