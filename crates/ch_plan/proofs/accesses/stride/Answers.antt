use Rattle.std.proofs.Common.{◌∙◌, ap, rules, arith, to_z, ◌*ℤ◌, SFits, w64}
use Rattle.std.specs.Int.{int_wrap}
use Rattle.std.proofs.lemmas.Int.{to_z-of_z}
use Rattle.ch_plan.proofs.Striding.{stride_done, stride_on, stride_start}
use Rattle.ch_plan.proofs.accesses.stride.Goals as goal

pub loop-k-init : goal.loop-k-init
loop-k-init c = stride_start c.args.extents.now

pub loop-k-preserved : goal.loop-k-preserved
loop-k-preserved c =
    let t : SFits w64 c.times-cells.result = search rules in
    let f : SFits w64 c.from.result = search rules in
    let next = simp to_z-of_z at c.times-cells.ensures in
    simp to_z-of_z (stride_on c.args.extents.now c.loop-k.k (to_z w64 c.loop-k.cells-bits) c.times-cells.result _ c.loop-k-test.true
    (next ∙ ap (λ z. int_wrap w64 (to_z w64 c.loop-k.cells-bits *ℤ z)) c.from.ensures) c.loop-k.invariant)

pub returns : goal.returns
returns c = stride_done c.args.extents.now c.loop-k.k (to_z w64 c.loop-k.cells-bits) (omega arith) (search rules) c.loop-k.invariant
