use Rattle.std.proofs.Common.{◌∙◌, ◌≤ℤ◌, ◌<ℤ◌, ap, refl, pos, slice_index_or, arith, rules, SFits, w64}
use Rattle.std.proofs.lemmas.Int.{ints, to_z-of_z}
use Rattle.ch_pieces.proofs.Cuts.{beyond_all, rest_here}
use Rattle.ch_pieces.proofs.count.value_from.Goals as goal

pub returns-then-from-range-clause-next : goal.returns-then-from-range-clause-next
returns-then-from-range-clause-next c =
    let high = (slice_index_or c.as_slice.result.now c.len.result (record { low = pos 0; high = pos 0 })).high in
    let fits : SFits w64 c.args.from = c.ranges.from in
    let fits_too : SFits w64 high = search rules in
    let test = simp to_z-of_z at c.if-from-range.true in
    let less : high <ℤ c.args.from = grind (arith, ints) in
    beyond_all c.args.system.now c.args.front.now c.args.from high c.as_slice.result.now c.len.result (record { low = pos 0; high = pos 0 })
    (c.as_slice.ensures ∙ ap (λ z. z.boxes) c.system.view_is) c.len.ensures refl less

pub least_in-requires-clause-rest : goal.least_in-requires-clause-rest
least_in-requires-clause-rest c =
    let high = (slice_index_or c.as_slice.result.now c.len.result (record { low = pos 0; high = pos 0 })).high in
    let fits : SFits w64 c.args.from = c.ranges.from in
    let fits_too : SFits w64 high = search rules in
    let test = simp to_z-of_z at c.if-from-range.false in
    let some : c.args.from ≤ℤ high = grind (arith, ints) in
    simp to_z-of_z (rest_here c.args.system.now c.args.front.now c.as_slice-2.result.now c.as_slice.result.now c.len.result (record { low = pos 0; high = pos 0 })
    (record { low = c.args.from; high = high }) (c.as_slice.ensures ∙ ap (λ z. z.boxes) c.system.view_is) c.len.ensures (c.as_slice-2.ensures ∙ c.in_ok-goes_on.ensures.front) c.requires.low some refl)
