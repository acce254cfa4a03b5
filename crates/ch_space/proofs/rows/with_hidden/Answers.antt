use Rattle.std.proofs.Common.{[], ◌∷◌, ◌++◌, ap, refl, ◌∙◌}
use Rattle.ch_space.proofs.Builds.{good_at, hidden_begins, hidden_more, hidden_pass, hidden_plain, hidden_there, rises_at}
use Rattle.ch_space.proofs.rows.with_hidden.Goals as goal
use Rattle.ch_space.proofs.rows.with_hidden.Goals.{in-Inside, then-level-ne1+in_ok-push-in-Inside, else-level-ne1, in-Where}

pub hidden_range-requires-clause-small : goal.hidden_range-requires-clause-small
hidden_range-requires-clause-small c =
    (good_at c.args.around.now c.args.boxes.now c.loop-part.next _ c.requires.fit c.requires.boxes
    (hidden_there c.args.around.now c.loop-part.part-index c.args.boxes.now c.loop-part.all c.loop-part.next c.part-item.result c.part-item.result c.in-Inside.level c.loop-part-test.true c.part-item.is c.in-Inside.is c.loop-part.invariant)).small

pub hidden_range-requires-clause-some : goal.hidden_range-requires-clause-some
hidden_range-requires-clause-some c =
    (good_at c.args.around.now c.args.boxes.now c.loop-part.next _ c.requires.fit c.requires.boxes
    (hidden_there c.args.around.now c.loop-part.part-index c.args.boxes.now c.loop-part.all c.loop-part.next c.part-item.result c.part-item.result c.in-Inside.level c.loop-part-test.true c.part-item.is c.in-Inside.is c.loop-part.invariant)).some

pub hidden_range-requires-clause-rises : goal.hidden_range-requires-clause-rises
hidden_range-requires-clause-rises c =
    rises_at c.args.around.now c.loop-part.part-index c.part-item.result c.part-item.result c.in-Inside.level c.requires.fit c.loop-part-test.true c.part-item.is c.in-Inside.is

pub loop-part-init : goal.loop-part-init
loop-part-init c = hidden_begins c.args.around.now c.args.boxes.now c.in_ok-all.all c.requires.boxes c.in_ok-all.ensures

pub loop-part-preserved : goal.loop-part-preserved
loop-part-preserved c =
    elim c.match-part.branch [
      | in-Inside w ↦ elim w.if-level-ne1.branch [
        | then-level-ne1+in_ok-push-in-Inside v ↦ rw (w.all-is, w.next-is, v.all-is)
            (hidden_more c.args.around.now c.loop-part.part-index c.args.boxes.now c.loop-part.all _ c.loop-part.next _ _ c.part-item.result c.part-item.result w.in-Inside.level c.loop-part-test.true c.part-item.is w.in-Inside.is
            v.if-level-ne1.true refl (v.in_ok-push-in-Inside.ensures.ok ∙ ap (λ r. c.loop-part.all ++ r ∷ []) v.hidden_range.ensures) c.loop-part.invariant)
        | else-level-ne1 v ↦ rw (w.all-is, w.next-is, v.all-is)
            (hidden_plain c.args.around.now c.loop-part.part-index c.args.boxes.now c.loop-part.all c.loop-part.next c.part-item.result c.part-item.result w.in-Inside.level c.loop-part-test.true c.part-item.is w.in-Inside.is
            v.if-level-ne1.false c.loop-part.invariant)
      ]
      | in-Where w ↦ rw (w.all-is, w.next-is)
          (hidden_pass c.args.around.now c.loop-part.part-index c.args.boxes.now c.loop-part.all c.loop-part.next c.part-item.result c.part-item.result w.in-Where.field-0 c.loop-part-test.true c.part-item.is w.in-Where.is c.loop-part.invariant)
    ]
