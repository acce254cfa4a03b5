use Rattle.std.proofs.Common.{◌≡◌, ◌∙◌, ap, ◌<ℤ◌, ◌++◌, ◌∷◌, [], pos, arith, rules, SFits, w64}
use Rattle.std.proofs.lemmas.Int.{ints, to_z-of_z}
use Rattle.ch_space.proofs.LeastAfter.{at_end_of_vector, at_greater_place, at_last_place, at_less_place, found_stays, leaves, none_left, some_left, stays, without_places, without_vector}
use Rattle.ch_space.proofs.after.+least_after.Goals as goal
use Rattle.ch_space.proofs.after.+least_after.Goals.{then-now-place-2-via-then-now-place-2, then-now-place-2-via-else-now-place-2+then-is_empty}

pub returns-in_default : goal.returns-in_default
returns-in_default t c = without_places c.args.piece.now c.args.fixed.now c.args.places.now c.requires.whole c.requires.long c.args.vector.now c.in_default.ensures.cases

pub returns-in_default-split_first : goal.returns-in_default-split_first
returns-in_default-split_first t c =
    without_vector c.args.piece.now c.args.fixed.now c.args.places.now c.requires.whole c.requires.long c.in-Some.place.now c.in-Some.inner.now c.args.vector.now c.least_with.result
    c.in-Some.ensures.cases.0 c.in_default-split_first.ensures.cases c.least_with.ensures

pub returns-then-now-place : goal.returns-then-now-place
returns-then-now-place t c =
    let now : SFits w64 c.in-Some-split_first.now.now = search rules in
    let place : SFits w64 c.from-place.result = search rules in
    let test = simp to_z-of_z at c.if-now-place.true in
    let is = c.from-place.ensures in
    let less : c.in-Some-split_first.now.now <ℤ pos c.in-Some.place.now = grind (arith, ints) in
    at_greater_place c.args.piece.now c.args.fixed.now c.args.places.now c.requires.whole c.requires.long c.in-Some.place.now c.in-Some.inner.now c.args.vector.now c.in-Some-split_first.now.now
    c.in-Some-split_first.later.now c.least_with-then-now-place.result c.in-Some.ensures.cases.0 c.in-Some-split_first.ensures.cases.0 less c.least_with-then-now-place.ensures

pub returns-then-now-place-2 : goal.returns-then-now-place-2
returns-then-now-place-2 t c =
    let now : SFits w64 c.in-Some-split_first.now.now = search rules in
    let place : SFits w64 c.from-place.result = search rules in
    let not_less = simp to_z-of_z at c.if-now-place.false in
    let is = c.from-place.ensures in
    elim c.then-now-place-2.branch [
      | then-now-place-2-via-then-now-place-2 w ↦ (let test = simp to_z-of_z at w.if-now-place-2.true in
          let more : pos c.in-Some.place.now <ℤ c.in-Some-split_first.now.now = grind (arith, ints) in
          at_less_place c.args.piece.now c.args.fixed.now c.args.places.now c.requires.whole c.requires.long c.in-Some.place.now c.in-Some.inner.now c.args.vector.now c.in-Some-split_first.now.now
          c.in-Some-split_first.later.now c.in-Some.ensures.cases.0 c.in-Some-split_first.ensures.cases.0 more)
      | then-now-place-2-via-else-now-place-2+then-is_empty w ↦ (let test = simp to_z-of_z at w.if-now-place-2.false in
          let same : c.in-Some-split_first.now.now ≡ pos c.in-Some.place.now = grind (arith, ints) in
          at_last_place c.args.piece.now c.args.fixed.now c.args.places.now c.requires.whole c.requires.long c.in-Some.place.now c.in-Some.inner.now c.args.vector.now c.in-Some-split_first.now.now
          c.in-Some-split_first.later.now c.in-Some.ensures.cases.0 c.in-Some-split_first.ensures.cases.0 same (none_left c.in-Some.inner.now w.if-is_empty.ensures))
    ]

pub returns-in_default-split_first-2 : goal.returns-in_default-split_first-2
returns-in_default-split_first-2 t c =
    let now : SFits w64 c.in-Some-split_first.now.now = search rules in
    let place : SFits w64 c.from-place.result = search rules in
    let not_less = simp to_z-of_z at c.if-now-place.false in
    let not_more = simp to_z-of_z at c.if-now-place-2.false in
    let is = c.from-place.ensures in
    let same : c.in-Some-split_first.now.now ≡ pos c.in-Some.place.now = grind (arith, ints) in
    at_end_of_vector c.args.piece.now c.args.fixed.now c.args.places.now c.requires.whole c.requires.long c.in-Some.place.now c.in-Some.inner.now c.args.vector.now c.in-Some-split_first.now.now
    c.in-Some-split_first.later.now c.least_with-in_default-split_first-2.result c.in-Some.ensures.cases.0 c.in-Some-split_first.ensures.cases.0 same (some_left c.in-Some.inner.now c.if-is_empty.ensures) c.in_default-split_first-2.ensures.cases
    c.least_with-in_default-split_first-2.ensures

pub returns-in-Some-2 : goal.returns-in-Some-2
returns-in-Some-2 t c =
    let now : SFits w64 c.in-Some-split_first.now.now = search rules in
    let place : SFits w64 c.from-place.result = search rules in
    let not_less = simp to_z-of_z at c.if-now-place.false in
    let not_more = simp to_z-of_z at c.if-now-place-2.false in
    let is = c.from-place.ensures in
    let same : c.in-Some-split_first.now.now ≡ pos c.in-Some.place.now = grind (arith, ints) in
    let value : SFits w64 c.in-Some-split_first-2.value.now = search rules in
    let pushed = simp to_z-of_z at c.in_ok-push.ensures.ok in
    stays c.args.piece.now c.args.fixed.now c.args.places.now c.requires.whole c.requires.long c.in-Some.place.now c.in-Some.inner.now c.args.vector.now c.in-Some-split_first.now.now
    c.in-Some-split_first-2.value.now c.in-Some-split_first.later.now c.in-Some-split_first-2.behind.now c.as_slice.result.now c.in-Some.ensures.cases.0 c.in-Some-split_first.ensures.cases.0
    c.in-Some-split_first-2.ensures.cases.0 same (c.as_slice.ensures ∙ pushed ∙ ap (λ z. z ++ c.in-Some-split_first-2.value.now ∷ []) c.in_ok-next.ensures) c.in-Some-2.instance
    (found_stays c.args.piece.now c.as_slice.result.now c.in-Some.inner.now c.in-Some-split_first-2.behind.now c.in_ok-instance.field-0 _ c.in-Some-2.is c.in_ok-instance.ensures)

pub returns : goal.returns
returns t c =
    let now : SFits w64 c.in-Some-split_first.now.now = search rules in
    let place : SFits w64 c.from-place.result = search rules in
    let not_less = simp to_z-of_z at c.if-now-place.false in
    let not_more = simp to_z-of_z at c.if-now-place-2.false in
    let is = c.from-place.ensures in
    let same : c.in-Some-split_first.now.now ≡ pos c.in-Some.place.now = grind (arith, ints) in
    let value : SFits w64 c.in-Some-split_first-2.value.now = search rules in
    let pushed = simp to_z-of_z at c.in_ok-push.ensures.ok in
    let above = simp to_z-of_z at c.least_beyond.ensures in
    leaves c.args.piece.now c.args.fixed.now c.args.places.now c.requires.whole c.requires.long c.in-Some.place.now c.in-Some.inner.now c.args.vector.now c.in-Some-split_first.now.now
    c.in-Some-split_first-2.value.now c.in-Some-split_first.later.now c.in-Some-split_first-2.behind.now c.as_slice.result.now c.in-Some.ensures.cases.0 c.in-Some-split_first.ensures.cases.0
    c.in-Some-split_first-2.ensures.cases.0 same (c.as_slice.ensures ∙ pushed ∙ ap (λ z. z ++ c.in-Some-split_first-2.value.now ∷ []) c.in_ok-next.ensures) c.least_beyond.result
    (found_stays c.args.piece.now c.as_slice.result.now c.in-Some.inner.now c.in-Some-split_first-2.behind.now c.in_ok-instance.field-0 _ c.in-None.is c.in_ok-instance.ensures) above
