use Rattle.std.proofs.Common.{◌≡◌, ◌∙◌, ◌<◌, ◌≤◌, ◌^◌, ◌++◌, ◌∷◌, [], ap, length, length-append, refl, subst, sym, SFits, w64, arith, rules}
use Rattle.std.proofs.lemmas.Int.{to_z-of_z}
use Rattle.ch_affine.specs.Affine.{IsAtMost}
use Rattle.ch_affine.specs.Rows.{IsSystem}
use Rattle.ch_pieces.specs.Counting.{count_from}
use Rattle.ch_pieces.proofs.Counts.{begins_pushed, few_counted, few_pushed, fits_next, fits_small, goes_first, goes_later, low_first, low_later, nearer, popped, pushed_on, range_seen, total_first, total_later, turn_of, value_small, word_next}
use Rattle.ch_pieces.proofs.count.+count_from.Goals as goal

pub value_from-requires-clause-low : goal.value_from-requires-clause-low
value_from-requires-clause-low t c =
    let boxes = (subst IsSystem c.system.view_is c.system.invariant).boxes in
    let e = c.len.ensures in
    let fits : SFits w64 (range_seen c.as_slice.result.now c.len-2.result).low = search rules in
    low_first c.args.system.now c.args.front.now c.as_slice.result.now c.len-2.result _ (c.as_slice.ensures ∙ ap (λ z. z.boxes) c.system.view_is) c.len-2.ensures
    (to_z-of_z w64 (range_seen c.as_slice.result.now c.len-2.result).low fits) (omega arith)

pub loop-next-init : goal.loop-next-init
loop-next-init t c =
    let boxes = (subst IsSystem c.system.view_is c.system.invariant).boxes in
    let e = c.len.ensures in
    let seen = c.as_slice.ensures ∙ ap (λ z. z.boxes) c.system.view_is in
    let fits : SFits w64 (range_seen c.as_slice.result.now c.len-2.result).low = search rules in
    let low = to_z-of_z w64 (range_seen c.as_slice.result.now c.len-2.result).low fits in
    record {
      front = refl;
      room = refl;
      goes = goes_first c.args.system.now c.args.front.now c.value_from.new.front c.as_slice.result.now c.len-2.result _ c.in_ok-next.next c.in_ok-next.ensures.front seen c.len-2.ensures low
          c.in_ok-next.ensures.next;
      total = total_first c.args.system.now c.args.levels c.args.front.now c.value_from.new.front c.as_slice.result.now c.len-2.result _ c.in_ok-next.next c.in_ok-next.ensures.front seen
          c.len-2.ensures low c.in_ok-next.ensures.next (omega arith) (omega arith);
    }

pub count_from-requires : goal.count_from-requires
count_from-requires t c =
    let turn = turn_of c.args.system.now c.args.levels c.value_from.new.front c.in-Some.value c.loop-next.count c.loop-next.next c.in-Some.is c.loop-next.invariant.goes c.loop-next.invariant.total in
    let s = subst IsSystem c.system.view_is c.system.invariant in
    let boxes = s.boxes in
    let e = c.len.ensures in
    let same = ap length c.in_ok-next.ensures.front in
    let small : IsAtMost (2 ^ 54) c.in-Some.value = value_small c.args.system.now c.args.levels c.value_from.new.front c.in-Some.value c.loop-next.count turn s.each (omega arith) in
    let fits = fits_small c.in-Some.value small in
    let pushed : c.push.new.self ≡ c.value_from.new.front ++ c.in-Some.value ∷ [] =
    pushed_on c.loop-next.front c.push.new.self c.value_from.new.front c.in-Some.value _ c.in_ok-push.ensures.ok c.loop-next.invariant.front (to_z-of_z w64 c.in-Some.value fits) in
    let few : count_from c.args.system.now c.args.levels c.value_from.new.front < 2 ^ 64 =
    subst (λ z. count_from c.args.system.now c.args.levels z < 2 ^ 64) (sym c.in_ok-next.ensures.front) c.requires.few in
    let room = c.loop-next.invariant.room ∙ c.in_ok-next.ensures.room in
    let longer = ap length pushed ∙ length-append c.value_from.new.front (c.in-Some.value ∷ []) in (
      omega (arith, c.decreases),
      (
        c.requires.levels,
        (
          omega arith,
          (
            begins_pushed c.args.system.now c.args.levels c.value_from.new.front c.in-Some.value c.loop-next.count turn c.push.new.self pushed,
            (
              subst (λ r. c.args.system.now.vars ≤ r.vars) (sym room) c.requires.room_vars,
              (
                subst (λ r. length c.args.system.now.rows ≤ r.rows) (sym room) c.requires.room_rows,
                few_pushed c.args.system.now c.args.levels c.value_from.new.front c.in-Some.value c.loop-next.count turn c.push.new.self (2 ^ 64) pushed few,
              ),
            ),
          ),
        ),
      ),
    )

pub overflow_add-count : goal.overflow_add-count
overflow_add-count t c =
    let turn = turn_of c.args.system.now c.args.levels c.value_from.new.front c.in-Some.value c.loop-next.count c.loop-next.next c.in-Some.is c.loop-next.invariant.goes c.loop-next.invariant.total in
    let s = subst IsSystem c.system.view_is c.system.invariant in
    let boxes = s.boxes in
    let e = c.len.ensures in
    let same = ap length c.in_ok-next.ensures.front in
    let small : IsAtMost (2 ^ 54) c.in-Some.value = value_small c.args.system.now c.args.levels c.value_from.new.front c.in-Some.value c.loop-next.count turn s.each (omega arith) in
    let fits = fits_small c.in-Some.value small in
    let pushed : c.push.new.self ≡ c.value_from.new.front ++ c.in-Some.value ∷ [] =
    pushed_on c.loop-next.front c.push.new.self c.value_from.new.front c.in-Some.value _ c.in_ok-push.ensures.ok c.loop-next.invariant.front (to_z-of_z w64 c.in-Some.value fits) in
    let few : count_from c.args.system.now c.args.levels c.value_from.new.front < 2 ^ 64 =
    subst (λ z. count_from c.args.system.now c.args.levels z < 2 ^ 64) (sym c.in_ok-next.ensures.front) c.requires.few in
    let total = few_counted c.args.system.now c.args.levels c.value_from.new.front c.in-Some.value c.loop-next.count turn c.push.new.self c.in_ok-count.field-0 (2 ^ 64) pushed c.in_ok-count.ensures.count few in
    omega arith

pub overflow_add-value : goal.overflow_add-value
overflow_add-value t c =
    let turn = turn_of c.args.system.now c.args.levels c.value_from.new.front c.in-Some.value c.loop-next.count c.loop-next.next c.in-Some.is c.loop-next.invariant.goes c.loop-next.invariant.total in
    let s = subst IsSystem c.system.view_is c.system.invariant in
    let boxes = s.boxes in
    let e = c.len.ensures in
    let same = ap length c.in_ok-next.ensures.front in
    fits_next c.in-Some.value (value_small c.args.system.now c.args.levels c.value_from.new.front c.in-Some.value c.loop-next.count turn s.each (omega arith))

pub value_from-requires-in-Some-clause-low : goal.value_from-requires-in-Some-clause-low
value_from-requires-in-Some-clause-low t c =
    let turn = turn_of c.args.system.now c.args.levels c.value_from.new.front c.in-Some.value c.loop-next.count c.loop-next.next c.in-Some.is c.loop-next.invariant.goes c.loop-next.invariant.total in
    let s = subst IsSystem c.system.view_is c.system.invariant in
    let boxes = s.boxes in
    let e = c.len.ensures in
    let same = ap length c.in_ok-next.ensures.front in
    let small : IsAtMost (2 ^ 54) c.in-Some.value = value_small c.args.system.now c.args.levels c.value_from.new.front c.in-Some.value c.loop-next.count turn s.each (omega arith) in
    let fits = fits_small c.in-Some.value small in
    let pushed : c.push.new.self ≡ c.value_from.new.front ++ c.in-Some.value ∷ [] =
    pushed_on c.loop-next.front c.push.new.self c.value_from.new.front c.in-Some.value _ c.in_ok-push.ensures.ok c.loop-next.invariant.front (to_z-of_z w64 c.in-Some.value fits) in
    let again : c.pop.new.self ≡ c.value_from.new.front =
    popped c.pop.result c.count_from.new.front c.pop.new.self c.value_from.new.front c.in-Some.value (c.in_ok-count.ensures.front ∙ pushed) c.pop.ensures in
    low_later c.args.system.now c.value_from.new.front c.pop.new.self _ c.in-Some.value again (word_next c.in-Some.value small) turn.low (omega arith)

pub loop-next-smaller : goal.loop-next-smaller
loop-next-smaller t c =
    let turn = turn_of c.args.system.now c.args.levels c.value_from.new.front c.in-Some.value c.loop-next.count c.loop-next.next c.in-Some.is c.loop-next.invariant.goes c.loop-next.invariant.total in
    let s = subst IsSystem c.system.view_is c.system.invariant in
    let boxes = s.boxes in
    let e = c.len.ensures in
    let same = ap length c.in_ok-next.ensures.front in
    let small : IsAtMost (2 ^ 54) c.in-Some.value = value_small c.args.system.now c.args.levels c.value_from.new.front c.in-Some.value c.loop-next.count turn s.each (omega arith) in
    let fits = fits_small c.in-Some.value small in
    let pushed : c.push.new.self ≡ c.value_from.new.front ++ c.in-Some.value ∷ [] =
    pushed_on c.loop-next.front c.push.new.self c.value_from.new.front c.in-Some.value _ c.in_ok-push.ensures.ok c.loop-next.invariant.front (to_z-of_z w64 c.in-Some.value fits) in
    let again : c.pop.new.self ≡ c.value_from.new.front =
    popped c.pop.result c.count_from.new.front c.pop.new.self c.value_from.new.front c.in-Some.value (c.in_ok-count.ensures.front ∙ pushed) c.pop.ensures in
    nearer c.args.system.now c.args.levels c.value_from.new.front c.in-Some.value c.loop-next.count turn c.pop.new.self _ c.loop-next.next c.in_ok-next-2.next c.in-Some.is again (word_next c.in-Some.value small) c.in_ok-next-2.ensures.next

pub loop-next-preserved : goal.loop-next-preserved
loop-next-preserved t c =
    let turn = turn_of c.args.system.now c.args.levels c.value_from.new.front c.in-Some.value c.loop-next.count c.loop-next.next c.in-Some.is c.loop-next.invariant.goes c.loop-next.invariant.total in
    let s = subst IsSystem c.system.view_is c.system.invariant in
    let boxes = s.boxes in
    let e = c.len.ensures in
    let same = ap length c.in_ok-next.ensures.front in
    let small : IsAtMost (2 ^ 54) c.in-Some.value = value_small c.args.system.now c.args.levels c.value_from.new.front c.in-Some.value c.loop-next.count turn s.each (omega arith) in
    let fits = fits_small c.in-Some.value small in
    let pushed : c.push.new.self ≡ c.value_from.new.front ++ c.in-Some.value ∷ [] =
    pushed_on c.loop-next.front c.push.new.self c.value_from.new.front c.in-Some.value _ c.in_ok-push.ensures.ok c.loop-next.invariant.front (to_z-of_z w64 c.in-Some.value fits) in
    let again : c.pop.new.self ≡ c.value_from.new.front =
    popped c.pop.result c.count_from.new.front c.pop.new.self c.value_from.new.front c.in-Some.value (c.in_ok-count.ensures.front ∙ pushed) c.pop.ensures in
    record {
      front = c.in_ok-next-2.ensures.front ∙ again;
      room = c.in_ok-next-2.ensures.room ∙ c.in_ok-count.ensures.room ∙ c.loop-next.invariant.room;
      goes = goes_later c.args.system.now c.args.levels c.value_from.new.front c.in-Some.value c.loop-next.count turn c.pop.new.self _ c.in_ok-next-2.next again (word_next c.in-Some.value small) c.in_ok-next-2.ensures.next;
      total = total_later c.args.system.now c.args.levels c.value_from.new.front c.in-Some.value c.loop-next.count turn c.pop.new.self c.push.new.self _ c.in_ok-next-2.next c.in_ok-count.field-0 again (word_next c.in-Some.value small) c.in_ok-next-2.ensures.next pushed
          c.in_ok-count.ensures.count;
    }
