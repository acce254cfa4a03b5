use Rattle.std.proofs.Common.{◌++◌, ◌∷◌, [], ◌≤ℤ◌, length, rules, SFits, w64, arith, to_z}
use Rattle.std.specs.Int.{w128}
use Rattle.std.proofs.lemmas.Int.{ints, to_z-of_z}
use Rattle.ch_nest.specs.declared.nest.Item.TheViews.{the_lemmas}
use Rattle.ch_nest.proofs.Fits.{head_lows, head_highs}
use Rattle.ch_nest.proofs.Turns.{body_at, if_at, item_at, loop_at, point_small, row_at, turn_of}
use Rattle.ch_nest.proofs.Values.{fewer_values}
use Rattle.ch_space.proofs.Subscripted.{inner_shallow, near_at}
use Rattle.ch_space.proofs.Judgings.{err_walks, inner_short, rest_goes_on, turn_goes_on, turn_short, turns_begin, turns_end, unmet_walked}
use Rattle.ch_space.proofs.judge.+judging.Goals as goal

pub walk_item-walk_instance-requires-clause-fits : goal.walk_item-walk_instance-requires-clause-fits
walk_item-walk_instance-requires-clause-fits t c = body_at c.args.nest.now.arrays c.args.item.now c.args.point.now c.in-Assign.label c.in-Assign.body c.in-Assign.is c.requires.at

pub walk_item-walk_instance-requires-clause-near : goal.walk_item-walk_instance-requires-clause-near
walk_item-walk_instance-requires-clause-near t c = near_at c.args.nest.now.arrays c.args.item.now c.args.point.now c.requires.shallow c.requires.at

pub walk_item-greatest_low-value-requires-clause-fit : goal.walk_item-greatest_low-value-requires-clause-fit
walk_item-greatest_low-value-requires-clause-fit t c =
    let a = loop_at c.args.nest.now.arrays c.args.item.now c.in-Loop.lows c.in-Loop.highs c.in-Loop.step c.in-Loop.items c.args.point.now c.in-Loop.is c.requires.at in
    rw c.as_slice.ensures (head_lows (length c.args.point.now) c.in-Loop.lows c.in-Loop.highs c.in-Loop.step a.head)

pub walk_item-greatest_low-value-requires-clause-small : goal.walk_item-greatest_low-value-requires-clause-small
walk_item-greatest_low-value-requires-clause-small t c = point_small c.args.nest.now.arrays c.args.item.now c.args.point.now c.requires.at

pub walk_item-least_high-high-requires-clause-fit : goal.walk_item-least_high-high-requires-clause-fit
walk_item-least_high-high-requires-clause-fit t c =
    let a = loop_at c.args.nest.now.arrays c.args.item.now c.in-Loop.lows c.in-Loop.highs c.in-Loop.step c.in-Loop.items c.args.point.now c.in-Loop.is c.requires.at in
    rw c.as_slice-in-Loop.ensures (head_highs (length c.args.point.now) c.in-Loop.lows c.in-Loop.highs c.in-Loop.step a.head)

pub walk_item-least_high-high-requires-clause-small : goal.walk_item-least_high-high-requires-clause-small
walk_item-least_high-high-requires-clause-small t c = point_small c.args.nest.now.arrays c.args.item.now c.args.point.now c.requires.at

pub walk_item-is_met-requires-clause-fits : goal.walk_item-is_met-requires-clause-fits
walk_item-is_met-requires-clause-fits t c = row_at c.args.nest.now.arrays c.args.item.now c.in-If.row c.in-If.items c.args.point.now c.in-If.is c.requires.at

pub walk_item-is_met-requires-clause-small : goal.walk_item-is_met-requires-clause-small
walk_item-is_met-requires-clause-small t c = point_small c.args.nest.now.arrays c.args.item.now c.args.point.now c.requires.at

pub walk_items-walk_item-requires : goal.walk_items-walk_item-requires
walk_items-walk_item-requires t c = (
  search (rules, the_lemmas),
  (
    rw c.item-item.is (item_at c.args.nest.now.arrays c.args.items.now c.args.point.now c.loop-item.item-index c.item-item.result c.loop-item-test.true c.requires.at),
    c.requires.shallow,
  ),
)

pub walk_items-loop-item-preserved : goal.walk_items-loop-item-preserved
walk_items-loop-item-preserved t c =
    rest_goes_on c.args.nest.now c.args.items.now c.args.point.now c.loop-item.item-index c.item-item.result c.args.walk c.loop-item.walk c.in_ok-walk.walk c.loop-item-test.true
    c.loop-item.invariant (rw c.item-item.is at c.in_ok-walk.ensures)

pub walk_item-turns-init : goal.walk_item-turns-init
walk_item-turns-init t c =
    let l : SFits w128 c.greatest_low-value.result = search rules in
    let h : SFits w128 c.least_high-high.result = search rules in
    let low = rw c.as_slice.ensures at c.greatest_low-value.ensures in
    let high = rw c.as_slice-in-Loop.ensures at c.least_high-high.ensures in
    record {
      from = omega (arith, ints);
      turned = simp to_z-of_z (turns_begin c.args.nest.now c.args.item.now c.in-Loop.lows c.in-Loop.highs c.in-Loop.step c.in-Loop.items c.args.point.now c.greatest_low-value.result
          c.least_high-high.result c.args.walk c.in-Loop.is low high);
    }

pub walk_item-as_number-requires : goal.walk_item-as_number-requires
walk_item-as_number-requires t c =
    let l : SFits w128 c.greatest_low-value.result = search rules in
    let h : SFits w128 c.least_high-high.result = search rules in
    let v : SFits w128 (to_z w128 c.turns.value-bits) = search rules in
    let low = rw c.as_slice.ensures at c.greatest_low-value.ensures in
    let high = rw c.as_slice-in-Loop.ensures at c.least_high-high.ensures in
    let from = simp to_z-of_z at c.turns.invariant.from in
    let not_past = simp to_z-of_z at c.turns-test.true in
    let to : to_z w128 c.turns.value-bits ≤ℤ c.least_high-high.result = grind (arith, ints) in
    let a = turn_of c.args.nest.now.arrays c.args.item.now c.in-Loop.lows c.in-Loop.highs c.in-Loop.step c.in-Loop.items c.args.point.now c.greatest_low-value.result c.least_high-high.result (to_z w128 c.turns.value-bits)
    c.in-Loop.is c.requires.at low high from to in
    a.small

pub walk_item-next_value-value-requires : goal.walk_item-next_value-value-requires
walk_item-next_value-value-requires t c =
    let l : SFits w128 c.greatest_low-value.result = search rules in
    let h : SFits w128 c.least_high-high.result = search rules in
    let v : SFits w128 (to_z w128 c.turns.value-bits) = search rules in
    let low = rw c.as_slice.ensures at c.greatest_low-value.ensures in
    let high = rw c.as_slice-in-Loop.ensures at c.least_high-high.ensures in
    let from = simp to_z-of_z at c.turns.invariant.from in
    let not_past = simp to_z-of_z at c.turns-test.true in
    let to : to_z w128 c.turns.value-bits ≤ℤ c.least_high-high.result = grind (arith, ints) in
    let a = turn_of c.args.nest.now.arrays c.args.item.now c.in-Loop.lows c.in-Loop.highs c.in-Loop.step c.in-Loop.items c.args.point.now c.greatest_low-value.result c.least_high-high.result (to_z w128 c.turns.value-bits)
    c.in-Loop.is c.requires.at low high from to in
    a.small

pub walk_item-extended-inner-requires : goal.walk_item-extended-inner-requires
walk_item-extended-inner-requires t c =
    let l : SFits w128 c.greatest_low-value.result = search rules in
    let h : SFits w128 c.least_high-high.result = search rules in
    let v : SFits w128 (to_z w128 c.turns.value-bits) = search rules in
    let low = rw c.as_slice.ensures at c.greatest_low-value.ensures in
    let high = rw c.as_slice-in-Loop.ensures at c.least_high-high.ensures in
    let from = simp to_z-of_z at c.turns.invariant.from in
    let not_past = simp to_z-of_z at c.turns-test.true in
    let to : to_z w128 c.turns.value-bits ≤ℤ c.least_high-high.result = grind (arith, ints) in
    let a = turn_of c.args.nest.now.arrays c.args.item.now c.in-Loop.lows c.in-Loop.highs c.in-Loop.step c.in-Loop.items c.args.point.now c.greatest_low-value.result c.least_high-high.result (to_z w128 c.turns.value-bits)
    c.in-Loop.is c.requires.at low high from to in
    a.depth

pub walk_item-walk_items-requires : goal.walk_item-walk_items-requires
walk_item-walk_items-requires t c =
    let l : SFits w128 c.greatest_low-value.result = search rules in
    let h : SFits w128 c.least_high-high.result = search rules in
    let v : SFits w128 (to_z w128 c.turns.value-bits) = search rules in
    let low = rw c.as_slice.ensures at c.greatest_low-value.ensures in
    let high = rw c.as_slice-in-Loop.ensures at c.least_high-high.ensures in
    let from = simp to_z-of_z at c.turns.invariant.from in
    let not_past = simp to_z-of_z at c.turns-test.true in
    let to : to_z w128 c.turns.value-bits ≤ℤ c.least_high-high.result = grind (arith, ints) in
    let a = turn_of c.args.nest.now.arrays c.args.item.now c.in-Loop.lows c.in-Loop.highs c.in-Loop.step c.in-Loop.items c.args.point.now c.greatest_low-value.result c.least_high-high.result (to_z w128 c.turns.value-bits)
    c.in-Loop.is c.requires.at low high from to in
    let n : SFits w64 c.as_number.result = search rules in
    let value = c.as_number.ensures in
    let inner = rw value at (simp to_z-of_z at c.extended-inner.ensures) in (
      rw c.as_slice-in-turns.ensures (search (rules, the_lemmas)),
      (rw c.as_slice-in-turns.ensures (a.there _ inner), inner_shallow c.args.point.now _ _ a.depth inner),
    )

pub walk_item-turns-smaller : goal.walk_item-turns-smaller
walk_item-turns-smaller t c =
    let l : SFits w128 c.greatest_low-value.result = search rules in
    let h : SFits w128 c.least_high-high.result = search rules in
    let v : SFits w128 (to_z w128 c.turns.value-bits) = search rules in
    let low = rw c.as_slice.ensures at c.greatest_low-value.ensures in
    let high = rw c.as_slice-in-Loop.ensures at c.least_high-high.ensures in
    let from = simp to_z-of_z at c.turns.invariant.from in
    let not_past = simp to_z-of_z at c.turns-test.true in
    let to : to_z w128 c.turns.value-bits ≤ℤ c.least_high-high.result = grind (arith, ints) in
    let a = turn_of c.args.nest.now.arrays c.args.item.now c.in-Loop.lows c.in-Loop.highs c.in-Loop.step c.in-Loop.items c.args.point.now c.greatest_low-value.result c.least_high-high.result (to_z w128 c.turns.value-bits)
    c.in-Loop.is c.requires.at low high from to in
    let w : SFits w128 c.next_value-value.result = search rules in
    let next = c.next_value-value.ensures in
    simp to_z-of_z (rw next (fewer_values (to_z w128 c.turns.value-bits) c.least_high-high.result c.in-Loop.step a.rises to))

pub walk_item-turns-preserved : goal.walk_item-turns-preserved
walk_item-turns-preserved t c =
    let l : SFits w128 c.greatest_low-value.result = search rules in
    let h : SFits w128 c.least_high-high.result = search rules in
    let v : SFits w128 (to_z w128 c.turns.value-bits) = search rules in
    let low = rw c.as_slice.ensures at c.greatest_low-value.ensures in
    let high = rw c.as_slice-in-Loop.ensures at c.least_high-high.ensures in
    let from = simp to_z-of_z at c.turns.invariant.from in
    let not_past = simp to_z-of_z at c.turns-test.true in
    let to : to_z w128 c.turns.value-bits ≤ℤ c.least_high-high.result = grind (arith, ints) in
    let a = turn_of c.args.nest.now.arrays c.args.item.now c.in-Loop.lows c.in-Loop.highs c.in-Loop.step c.in-Loop.items c.args.point.now c.greatest_low-value.result c.least_high-high.result (to_z w128 c.turns.value-bits)
    c.in-Loop.is c.requires.at low high from to in
    let n : SFits w64 c.as_number.result = search rules in
    let value = c.as_number.ensures in
    let inner = rw value at (simp to_z-of_z at c.extended-inner.ensures) in
    let w : SFits w128 c.next_value-value.result = search rules in
    let next = c.next_value-value.ensures in
    let before = simp to_z-of_z at c.turns.invariant.turned in
    let here = rw c.as_slice-in-turns.ensures at c.in_ok-walk-in-Loop.ensures in
    record {
      from = simp to_z-of_z (rw next (omega (arith, ints, from)));
      turned = simp to_z-of_z (rw next (turn_goes_on c.args.nest.now c.args.item.now c.in-Loop.items c.args.point.now _ c.in-Loop.step (to_z w128 c.turns.value-bits) c.least_high-high.result
          c.args.walk c.turns.walk c.in_ok-turn-in-Loop.turn c.in_ok-walk-in-Loop.walk a.rises to inner before c.in_ok-turn-in-Loop.ensures here));
    }

pub walk_item-returns-after-turns : goal.walk_item-returns-after-turns
walk_item-returns-after-turns t c =
    let h : SFits w128 c.least_high-high.result = search rules in
    let v : SFits w128 (to_z w128 c.turns.value-bits) = search rules in
    let past = simp to_z-of_z at c.turns-test.false in
    let before = simp to_z-of_z at c.turns.invariant.turned in
    turns_end c.args.nest.now c.args.item.now c.in-Loop.items c.args.point.now c.in-Loop.step (to_z w128 c.turns.value-bits) c.least_high-high.result c.args.walk c.turns.walk
    (omega (arith, ints)) before

pub walk_item-returns-in_err-turn-in-Loop : goal.walk_item-returns-in_err-turn-in-Loop
walk_item-returns-in_err-turn-in-Loop t c =
    let l : SFits w128 c.greatest_low-value.result = search rules in
    let h : SFits w128 c.least_high-high.result = search rules in
    let v : SFits w128 (to_z w128 c.turns.value-bits) = search rules in
    let low = rw c.as_slice.ensures at c.greatest_low-value.ensures in
    let high = rw c.as_slice-in-Loop.ensures at c.least_high-high.ensures in
    let from = simp to_z-of_z at c.turns.invariant.from in
    let not_past = simp to_z-of_z at c.turns-test.true in
    let to : to_z w128 c.turns.value-bits ≤ℤ c.least_high-high.result = grind (arith, ints) in
    let a = turn_of c.args.nest.now.arrays c.args.item.now c.in-Loop.lows c.in-Loop.highs c.in-Loop.step c.in-Loop.items c.args.point.now c.greatest_low-value.result c.least_high-high.result (to_z w128 c.turns.value-bits)
    c.in-Loop.is c.requires.at low high from to in
    let before = simp to_z-of_z at c.turns.invariant.turned in
    err_walks c.from_residual.result c.in_err-turn-in-Loop.field-0.0 _ _ c.args.walk c.from_residual.ensures.1
    (turn_short c.args.nest.now c.args.item.now c.in-Loop.items c.args.point.now c.in-Loop.step (to_z w128 c.turns.value-bits) c.least_high-high.result
    c.in_err-turn-in-Loop.field-0.0 c.args.walk c.turns.walk a.rises to before c.in_err-turn-in-Loop.ensures)

pub walk_item-returns-in_err-walk-in-Loop : goal.walk_item-returns-in_err-walk-in-Loop
walk_item-returns-in_err-walk-in-Loop t c =
    let l : SFits w128 c.greatest_low-value.result = search rules in
    let h : SFits w128 c.least_high-high.result = search rules in
    let v : SFits w128 (to_z w128 c.turns.value-bits) = search rules in
    let low = rw c.as_slice.ensures at c.greatest_low-value.ensures in
    let high = rw c.as_slice-in-Loop.ensures at c.least_high-high.ensures in
    let from = simp to_z-of_z at c.turns.invariant.from in
    let not_past = simp to_z-of_z at c.turns-test.true in
    let to : to_z w128 c.turns.value-bits ≤ℤ c.least_high-high.result = grind (arith, ints) in
    let a = turn_of c.args.nest.now.arrays c.args.item.now c.in-Loop.lows c.in-Loop.highs c.in-Loop.step c.in-Loop.items c.args.point.now c.greatest_low-value.result c.least_high-high.result (to_z w128 c.turns.value-bits)
    c.in-Loop.is c.requires.at low high from to in
    let n : SFits w64 c.as_number.result = search rules in
    let value = c.as_number.ensures in
    let inner = rw value at (simp to_z-of_z at c.extended-inner.ensures) in
    let before = simp to_z-of_z at c.turns.invariant.turned in
    let here = rw c.as_slice-in-turns.ensures at c.in_err-walk-in-Loop.ensures in
    err_walks c.from_residual-in_err-walk-in-Loop.result c.in_err-walk-in-Loop.field-0.0 _ _ c.args.walk c.from_residual-in_err-walk-in-Loop.ensures.1
    (inner_short c.args.nest.now c.args.item.now c.in-Loop.items c.args.point.now _ c.in-Loop.step (to_z w128 c.turns.value-bits) c.least_high-high.result
    c.in_err-walk-in-Loop.field-0.0 c.args.walk c.turns.walk c.in_ok-turn-in-Loop.turn a.rises to inner before c.in_ok-turn-in-Loop.ensures here)
