use Rattle.std.proofs.Common.{rules, arith, ◌∙◌}
use Rattle.ch_nest.proofs.FlatItems.{assign_flat, body_below, flats_more, if_flat, item_below, loop_below, loop_flat}
use Rattle.ch_nest.proofs.Fits.{head_depth}
use Rattle.ch_nest.proofs.Runs.{body_parts}
use Rattle.ch_nest.specs.declared.nest.Item.TheViews.{the_lemmas}
use Rattle.ch_nest.proofs.plan.+form.Goals as goal

pub item_form-expr_form-requires-clause-fits : goal.item_form-expr_form-requires-clause-fits
item_form-expr_form-requires-clause-fits t c =
    body_parts c.args.arrays.now c.args.depth c.in-Assign.body (body_below c.args.arrays.now c.args.item.now c.args.depth c.in-Assign.label c.in-Assign.body c.in-Assign.is c.requires.below)

pub item_form-items_form-requires : goal.item_form-items_form-requires
item_form-items_form-requires t c =
    let b = loop_below c.args.arrays.now c.args.item.now c.args.depth c.in-Loop.lows c.in-Loop.highs c.in-Loop.step c.in-Loop.items c.in-Loop.is c.requires.below in (
      rw c.as_slice-in-Loop-2.ensures (search (rules, the_lemmas)),
      (
        c.requires.arrays,
        (
          omega (arith, head_depth c.args.depth c.in-Loop.lows c.in-Loop.highs c.in-Loop.step b.head),
          rw c.as_slice-in-Loop-2.ensures b.inner,
        ),
      ),
    )

pub item_form-returns-in_ok-right-in-Assign : goal.item_form-returns-in_ok-right-in-Assign
item_form-returns-in_ok-right-in-Assign t c =
    assign_flat c.args.arrays.now c.args.depth c.args.item.now c.in-Assign.label c.in-Assign.body c.in_ok-write-in-Assign.write c.in_ok-right-in-Assign.right c.in-Assign.is
    c.in_ok-write-in-Assign.ensures c.in_ok-right-in-Assign.ensures

pub item_form-returns-in_ok-items-in-Loop : goal.item_form-returns-in_ok-items-in-Loop
item_form-returns-in_ok-items-in-Loop t c =
    let b = loop_below c.args.arrays.now c.args.item.now c.args.depth c.in-Loop.lows c.in-Loop.highs c.in-Loop.step c.in-Loop.items c.in-Loop.is c.requires.below in
    let flats = rw c.as_slice-in-Loop-2.ensures at c.in_ok-items-in-Loop.ensures in
    loop_flat c.args.arrays.now c.args.depth c.args.item.now c.in-Loop.lows c.in-Loop.highs c.in_ok-lows-in-Loop.lows c.in_ok-highs-in-Loop.highs c.in-Loop.step c.in-Loop.items
    c.in_ok-items-in-Loop.items c.in-Loop.is (c.in_ok-lows-in-Loop.ensures ∙ c.as_slice.ensures) (c.in_ok-highs-in-Loop.ensures ∙ c.as_slice-in-Loop.ensures)
    (head_depth c.args.depth c.in-Loop.lows c.in-Loop.highs c.in-Loop.step b.head) flats

pub item_form-returns-in_ok-items-in-If : goal.item_form-returns-in_ok-items-in-If
item_form-returns-in_ok-items-in-If t c =
    let flats = rw c.as_slice-in-If.ensures at c.in_ok-items-in-If.ensures in
    if_flat c.args.arrays.now c.args.depth c.args.item.now c.in-If.row c.in_ok-row-in-If.row c.in-If.items c.in_ok-items-in-If.items c.in-If.is c.in_ok-row-in-If.ensures c.requires.depth flats

pub items_form-item_form-requires : goal.items_form-item_form-requires
items_form-item_form-requires t c = (
  search (rules, the_lemmas),
  (
    c.requires.arrays,
    (
      c.requires.depth,
      rw c.item-item.is (item_below c.args.arrays.now c.args.items.now c.args.depth c.loop-item.item-index c.item-item.result c.loop-item-test.true c.requires.below),
    ),
  ),
)

pub items_form-loop-item-preserved : goal.items_form-loop-item-preserved
items_form-loop-item-preserved t c =
    flats_more c.args.arrays.now c.args.depth c.args.items.now c.loop-item.flat c.push.new.self c.item-item.result c.in_ok-item_form.field-0 c.loop-item.item-index
    c.loop-item-test.true c.item-item.is c.loop-item.invariant c.in_ok-item_form.ensures c.in_ok-push.ensures.ok
