use Rattle.std.proofs.Common.{rules, refl, pos, get_or, SFits, w64, arith}
use Rattle.std.proofs.lemmas.Int.{to_z-of_z}
use Rattle.ch_permute.proofs.Steps.{level_number, source_value}
use Rattle.ch_permute.proofs.ordering.source.Goals as goal

pub overflow_cast-result : goal.overflow_cast-result
overflow_cast-result c =
    let f : SFits w64 (get_or c.args.order.now c.args.level (pos 0)) = search rules in
    let r = level_number c.args.order.now c.args.level c.requires c.if-level-order.true in
    let g = rw r.2 at f in
    simp to_z-of_z (rw r.2 (tt, record { fits = omega arith }))

pub overflow_sub-result : goal.overflow_sub-result
overflow_sub-result c =
    let f : SFits w64 (get_or c.args.order.now c.args.level (pos 0)) = search rules in
    let r = level_number c.args.order.now c.args.level c.requires c.if-level-order.true in
    simp to_z-of_z (rw r.2 (omega arith))

pub returns-then-level-order : goal.returns-then-level-order
returns-then-level-order c =
    let f : SFits w64 (get_or c.args.order.now c.args.level (pos 0)) = search rules in
    simp to_z-of_z (source_value c.args.order.now c.args.level (get_or c.args.order.now c.args.level (pos 0)) c.requires c.if-level-order.true refl)
