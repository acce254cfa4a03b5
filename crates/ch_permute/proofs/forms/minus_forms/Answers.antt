use Rattle.std.proofs.Common.{◌∙◌, length, arith}
use Rattle.std.proofs.lemmas.Int.{to_z-of_z}
use Rattle.std.proofs.Common.{SFits, w64, ◌<◌, ◌≤◌}
use Rattle.std.proofs.lemmas.List.{take_all}
use Rattle.ch_affine.specs.Affine.{form}
use Rattle.ch_permute.specs.Lowered.{minus_forms}
use Rattle.ch_permute.proofs.Steps.{minus_count, next_minus}
use Rattle.ch_permute.proofs.forms.minus_forms.Goals as goal

pub loop-k-preserved : goal.loop-k-preserved
loop-k-preserved c =
    let f : SFits w64 c.args.amount = c.ranges.amount in
    let fs = minus_forms (form c.args.amounts.now c.args.amount) c.args.level c.args.levels in
    let n = minus_count (form c.args.amounts.now c.args.amount) c.args.level c.args.levels in
    let l : c.loop-k.k < length fs = omega arith in
    let e = simp to_z-of_z at c.in_ok-minus_form.ensures in
    let i = simp to_z-of_z at c.loop-k.invariant in
    simp to_z-of_z (next_minus fs c.loop-k.forms _ c.loop-k.k _ l e i c.in_ok-push.ensures.ok)

pub returns : goal.returns
returns c =
    let f : SFits w64 c.args.amount = c.ranges.amount in
    let fs = minus_forms (form c.args.amounts.now c.args.amount) c.args.level c.args.levels in
    let n = minus_count (form c.args.amounts.now c.args.amount) c.args.level c.args.levels in
    let l : length fs ≤ c.loop-k.k = omega arith in
    (simp to_z-of_z at c.loop-k.invariant) ∙ take_all c.loop-k.k fs l
