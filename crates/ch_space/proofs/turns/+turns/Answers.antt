use Rattle.std.proofs.Common.{◌++◌, ◌∷◌, [], ◌≤ℤ◌, ◌+◌, length, take, rules, refl, SFits, w64, arith, to_z}
use Rattle.std.specs.Int.{w128}
use Rattle.std.proofs.lemmas.Int.{ints, to_z-of_z}
use Rattle.ch_nest.proofs.Values.{fewer_values}
use Rattle.ch_space.proofs.TurnSteps.{count_begins, count_ends, count_goes_on, ends_at, first_at, highs_at, innermost, lows_at, nothing_left, row_at, rises_at, small_at, stays_capped, turn_of}
use Rattle.ch_space.specs.declared.level.Around.TheVariants.{Inside, Where}
use Rattle.ch_space.proofs.turns.+turns.Goals as goal

pub loop_turns-greatest_low-value-requires-clause-fit : goal.loop_turns-greatest_low-value-requires-clause-fit
loop_turns-greatest_low-value-requires-clause-fit t c = rw c.as_slice.ensures (lows_at c.args.level.now c.args.inner.now c.args.point.now c.requires.at)

pub loop_turns-greatest_low-value-requires-clause-small : goal.loop_turns-greatest_low-value-requires-clause-small
loop_turns-greatest_low-value-requires-clause-small t c = small_at (Inside c.args.level.now ∷ c.args.inner.now) c.args.point.now c.requires.at

pub loop_turns-least_high-high-requires-clause-fit : goal.loop_turns-least_high-high-requires-clause-fit
loop_turns-least_high-high-requires-clause-fit t c = rw c.as_slice-2.ensures (highs_at c.args.level.now c.args.inner.now c.args.point.now c.requires.at)

pub loop_turns-least_high-high-requires-clause-small : goal.loop_turns-least_high-high-requires-clause-small
loop_turns-least_high-high-requires-clause-small t c = small_at (Inside c.args.level.now ∷ c.args.inner.now) c.args.point.now c.requires.at

pub loop_turns-turns_of-requires-clause-small : goal.loop_turns-turns_of-requires-clause-small
loop_turns-turns_of-requires-clause-small t c =
    let l : SFits w128 c.greatest_low-value.result = search rules in
    let h : SFits w128 c.least_high-high.result = search rules in
    let low = rw c.as_slice.ensures at c.greatest_low-value.ensures in
    let high = rw c.as_slice-2.ensures at c.least_high-high.ensures in
    simp to_z-of_z (ends_at c.args.level.now c.args.inner.now c.args.point.now c.greatest_low-value.result c.least_high-high.result c.requires.at low high)

pub loop_turns-turns_of-requires-clause-rises : goal.loop_turns-turns_of-requires-clause-rises
loop_turns-turns_of-requires-clause-rises t c = rises_at c.args.level.now c.args.inner.now c.args.point.now c.requires.at

pub loop_turns-returns-then-is_empty : goal.loop_turns-returns-then-is_empty
loop_turns-returns-then-is_empty t c =
    let l : SFits w128 c.greatest_low-value.result = search rules in
    let h : SFits w128 c.least_high-high.result = search rules in
    let low = rw c.as_slice.ensures at c.greatest_low-value.ensures in
    let high = rw c.as_slice-2.ensures at c.least_high-high.ensures in
    let n = simp to_z-of_z at c.turns_of.ensures in
    innermost c.args.level.now c.args.inner.now c.args.point.now c.turns_of.result c.min.result c.greatest_low-value.result c.least_high-high.result (nothing_left _ c.if-is_empty.ensures) low high n c.min.ensures

pub loop_turns-turns-init : goal.loop_turns-turns-init
loop_turns-turns-init t c =
    let l : SFits w128 c.greatest_low-value.result = search rules in
    let h : SFits w128 c.least_high-high.result = search rules in
    let low = rw c.as_slice.ensures at c.greatest_low-value.ensures in
    let high = rw c.as_slice-2.ensures at c.least_high-high.ensures in
    record {
      from = omega (arith, ints);
      small = omega arith;
      counting = simp to_z-of_z (count_begins c.args.level.now c.args.inner.now c.args.point.now c.greatest_low-value.result c.least_high-high.result low high);
    }

pub loop_turns-as_number-requires : goal.loop_turns-as_number-requires
loop_turns-as_number-requires t c =
    let l : SFits w128 c.greatest_low-value.result = search rules in
    let h : SFits w128 c.least_high-high.result = search rules in
    let v : SFits w128 (to_z w128 c.turns.value-bits) = search rules in
    let low = rw c.as_slice.ensures at c.greatest_low-value.ensures in
    let high = rw c.as_slice-2.ensures at c.least_high-high.ensures in
    let from = simp to_z-of_z at c.turns.invariant.from in
    let not_past = simp to_z-of_z at c.turns-test.true in
    let to : to_z w128 c.turns.value-bits ≤ℤ c.least_high-high.result = grind (arith, ints) in
    let a = turn_of c.args.level.now c.args.inner.now c.args.point.now c.greatest_low-value.result c.least_high-high.result (to_z w128 c.turns.value-bits) c.requires.at low high from to in
    a.small

pub loop_turns-next_value-value-requires : goal.loop_turns-next_value-value-requires
loop_turns-next_value-value-requires t c =
    let l : SFits w128 c.greatest_low-value.result = search rules in
    let h : SFits w128 c.least_high-high.result = search rules in
    let v : SFits w128 (to_z w128 c.turns.value-bits) = search rules in
    let low = rw c.as_slice.ensures at c.greatest_low-value.ensures in
    let high = rw c.as_slice-2.ensures at c.least_high-high.ensures in
    let from = simp to_z-of_z at c.turns.invariant.from in
    let not_past = simp to_z-of_z at c.turns-test.true in
    let to : to_z w128 c.turns.value-bits ≤ℤ c.least_high-high.result = grind (arith, ints) in
    let a = turn_of c.args.level.now c.args.inner.now c.args.point.now c.greatest_low-value.result c.least_high-high.result (to_z w128 c.turns.value-bits) c.requires.at low high from to in
    a.small

pub loop_turns-extended-next-requires : goal.loop_turns-extended-next-requires
loop_turns-extended-next-requires t c =
    let l : SFits w128 c.greatest_low-value.result = search rules in
    let h : SFits w128 c.least_high-high.result = search rules in
    let v : SFits w128 (to_z w128 c.turns.value-bits) = search rules in
    let low = rw c.as_slice.ensures at c.greatest_low-value.ensures in
    let high = rw c.as_slice-2.ensures at c.least_high-high.ensures in
    let from = simp to_z-of_z at c.turns.invariant.from in
    let not_past = simp to_z-of_z at c.turns-test.true in
    let to : to_z w128 c.turns.value-bits ≤ℤ c.least_high-high.result = grind (arith, ints) in
    let a = turn_of c.args.level.now c.args.inner.now c.args.point.now c.greatest_low-value.result c.least_high-high.result (to_z w128 c.turns.value-bits) c.requires.at low high from to in
    a.depth

pub loop_turns-turns_up_to-here-requires : goal.loop_turns-turns_up_to-here-requires
loop_turns-turns_up_to-here-requires t c =
    let l : SFits w128 c.greatest_low-value.result = search rules in
    let h : SFits w128 c.least_high-high.result = search rules in
    let v : SFits w128 (to_z w128 c.turns.value-bits) = search rules in
    let low = rw c.as_slice.ensures at c.greatest_low-value.ensures in
    let high = rw c.as_slice-2.ensures at c.least_high-high.ensures in
    let from = simp to_z-of_z at c.turns.invariant.from in
    let not_past = simp to_z-of_z at c.turns-test.true in
    let to : to_z w128 c.turns.value-bits ≤ℤ c.least_high-high.result = grind (arith, ints) in
    let a = turn_of c.args.level.now c.args.inner.now c.args.point.now c.greatest_low-value.result c.least_high-high.result (to_z w128 c.turns.value-bits) c.requires.at low high from to in
    let n : SFits w64 c.as_number.result = search rules in
    let value = c.as_number.ensures in
    let next = rw value at (simp to_z-of_z at c.extended-next.ensures) in
    (search rules, a.there _ next)

pub loop_turns-turns-smaller : goal.loop_turns-turns-smaller
loop_turns-turns-smaller t c =
    let l : SFits w128 c.greatest_low-value.result = search rules in
    let h : SFits w128 c.least_high-high.result = search rules in
    let v : SFits w128 (to_z w128 c.turns.value-bits) = search rules in
    let low = rw c.as_slice.ensures at c.greatest_low-value.ensures in
    let high = rw c.as_slice-2.ensures at c.least_high-high.ensures in
    let from = simp to_z-of_z at c.turns.invariant.from in
    let not_past = simp to_z-of_z at c.turns-test.true in
    let to : to_z w128 c.turns.value-bits ≤ℤ c.least_high-high.result = grind (arith, ints) in
    let a = turn_of c.args.level.now c.args.inner.now c.args.point.now c.greatest_low-value.result c.least_high-high.result (to_z w128 c.turns.value-bits) c.requires.at low high from to in
    let w : SFits w128 c.next_value-value.result = search rules in
    let next = c.next_value-value.ensures in
    simp to_z-of_z (rw next (fewer_values (to_z w128 c.turns.value-bits) c.least_high-high.result c.args.level.now.step a.rises to))

pub loop_turns-turns-preserved : goal.loop_turns-turns-preserved
loop_turns-turns-preserved t c =
    let l : SFits w128 c.greatest_low-value.result = search rules in
    let h : SFits w128 c.least_high-high.result = search rules in
    let v : SFits w128 (to_z w128 c.turns.value-bits) = search rules in
    let low = rw c.as_slice.ensures at c.greatest_low-value.ensures in
    let high = rw c.as_slice-2.ensures at c.least_high-high.ensures in
    let from = simp to_z-of_z at c.turns.invariant.from in
    let not_past = simp to_z-of_z at c.turns-test.true in
    let to : to_z w128 c.turns.value-bits ≤ℤ c.least_high-high.result = grind (arith, ints) in
    let a = turn_of c.args.level.now c.args.inner.now c.args.point.now c.greatest_low-value.result c.least_high-high.result (to_z w128 c.turns.value-bits) c.requires.at low high from to in
    let n : SFits w64 c.as_number.result = search rules in
    let value = c.as_number.ensures in
    let point = rw value at (simp to_z-of_z at c.extended-next.ensures) in
    let w : SFits w128 c.next_value-value.result = search rules in
    let next = c.next_value-value.ensures in
    let before = simp to_z-of_z at c.turns.invariant.counting in
    record {
      from = simp to_z-of_z (rw next (omega (arith, ints, from)));
      small = stays_capped _ c.min-sum.result c.min-sum.ensures;
      counting = simp to_z-of_z (rw next (count_goes_on c.args.level.now c.args.inner.now c.args.point.now (take (length c.args.point.now + 1) c.extended-next.result) (to_z w128 c.turns.value-bits) c.least_high-high.result
          c.turns.sum c.turns_up_to-here.result c.min-sum.result a.rises to point c.turns_up_to-here.ensures c.min-sum.ensures before));
    }

pub loop_turns-returns : goal.loop_turns-returns
loop_turns-returns t c =
    let h : SFits w128 c.least_high-high.result = search rules in
    let v : SFits w128 (to_z w128 c.turns.value-bits) = search rules in
    let past = simp to_z-of_z at c.turns-test.false in
    let before = simp to_z-of_z at c.turns.invariant.counting in
    count_ends c.args.level.now c.args.inner.now c.args.point.now (to_z w128 c.turns.value-bits) c.least_high-high.result c.turns.sum (omega (arith, ints)) c.turns.invariant.small before

pub turns_up_to-is_met-requires-clause-fits : goal.turns_up_to-is_met-requires-clause-fits
turns_up_to-is_met-requires-clause-fits t c =
    row_at c.in-Where.row _ c.args.point.now (first_at c.args.around.now c.args.point.now c.part-item.result (Where c.in-Where.row) c.in-len1-up.len_at_least c.part-item.is c.in-Where.is c.requires.at)

pub turns_up_to-is_met-requires-clause-small : goal.turns_up_to-is_met-requires-clause-small
turns_up_to-is_met-requires-clause-small t c = small_at c.args.around.now c.args.point.now c.requires.at
