use Rattle.std.proofs.Common.{◌∙◌, ap, rules, ◌++◌, ◌∷◌, [], SFits, w64}
use Rattle.std.proofs.lemmas.Int.{to_z-of_z}
use Rattle.ch_plan.specs.declared.accesses.Placed.{Placed}
use Rattle.ch_eval.proofs.Placing.{bases_push, end_push, extents_push, placed_at}
use Rattle.ch_eval.proofs.ready.place.Goals as goal

pub returns-clause-bases : goal.returns-clause-bases
returns-clause-bases c =
    let f : SFits w64 c.args.base = c.ranges.base in
    let pushed = simp to_z-of_z at c.in_ok-push.ensures.ok in
    bases_push c.args.placed.now c.push.new.self (placed_at c.args.base c.in_ok-copy.copy) pushed c.requires.bases c.requires.base

pub returns-clause-extents : goal.returns-clause-extents
returns-clause-extents c =
    let f : SFits w64 c.args.base = c.ranges.base in
    let pushed = simp to_z-of_z at c.in_ok-push.ensures.ok in
    let same = pushed ∙ ap (λ es. c.args.placed.now ++ placed_at c.args.base es ∷ []) c.in_ok-copy.ensures in
    extents_push c.args.placed.now c.push.new.self (placed_at c.args.base c.args.extents.now) same

pub returns-clause-end : goal.returns-clause-end
returns-clause-end c =
    let f : SFits w64 c.args.base = c.ranges.base in
    let s : SFits w64 c.stride.result = search rules in
    let e : SFits w64 c.plus.result = search rules in
    let pushed = simp to_z-of_z at c.in_ok-push.ensures.ok in
    let same = pushed ∙ ap (λ es. c.args.placed.now ++ placed_at c.args.base es ∷ []) c.in_ok-copy.ensures in
    let sum = simp to_z-of_z at c.plus.ensures in
    simp to_z-of_z (end_push c.args.placed.now c.push.new.self (placed_at c.args.base c.args.extents.now) c.args.base c.stride.result c.plus.result same c.requires.base c.stride.ensures sum)
