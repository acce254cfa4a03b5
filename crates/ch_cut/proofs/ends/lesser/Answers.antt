use Rattle.std.proofs.Common.{◌≡◌, ◌≤ℤ◌, ◌<ℤ◌, ◌^◌, refl, ap, map, pos, sym, true, ◌∙◌, SFits, w64, arith}
use Rattle.std.proofs.lemmas.Int.{ints, to_z-of_z}
use Rattle.ch_affine.specs.Affine.{IsAtMost}
use Rattle.ch_cut.proofs.Leasts.{new_lesser, no_less, same_lesser}
use Rattle.ch_cut.proofs.Spacing.{from_le, from_not_le}
use Rattle.ch_space.specs.Keeps.{places_of}
use Rattle.ch_timed.specs.Vectors.{shares}
use Rattle.ch_cut.proofs.ends.lesser.Goals as goal

pub returns-then-least-value-clause-lesser : goal.returns-then-least-value-clause-lesser
returns-then-least-value-clause-lesser c =
    let f : SFits w64 c.args.factor = c.ranges.factor in
    let g : SFits w64 c.args.least = c.ranges.least in
    let n : IsAtMost (2 ^ 54) c.in_ok-value.value = c.in_ok-value.ensures.near in
    let v : SFits w64 c.in_ok-value.value = omega (arith, ints) in
    let l = simp to_z-of_z at c.in_ok-value.ensures.least in
    let t : c.args.least ≤ℤ c.in_ok-value.value = from_le c.args.least c.in_ok-value.value (simp to_z-of_z at c.if-least-value.true) in
    simp to_z-of_z (same_lesser (map pos c.args.ours.now) c.args.piece.now c.args.level c.args.factor c.args.least c.args.least refl
    (λ s. no_less c.args.piece.now c.args.level c.args.factor c.in_ok-value.value c.args.least t l.below))

pub returns-clause-lesser : goal.returns-clause-lesser
returns-clause-lesser c =
    let f : SFits w64 c.args.factor = c.ranges.factor in
    let g : SFits w64 c.args.least = c.ranges.least in
    let n : IsAtMost (2 ^ 54) c.in_ok-value.value = c.in_ok-value.ensures.near in
    let v : SFits w64 c.in_ok-value.value = omega (arith, ints) in
    let l = simp to_z-of_z at c.in_ok-value.ensures.least in
    let t : c.in_ok-value.value <ℤ c.args.least = from_not_le c.args.least c.in_ok-value.value (simp to_z-of_z at c.if-least-value.false) in
    let s : shares c.args.level (map pos c.args.ours.now) (places_of c.args.piece.now) ≡ true =
    ap (λ t. shares c.args.level (map pos c.args.ours.now) (map pos t)) (sym c.as_slice.ensures) ∙ sym c.share.ensures ∙ c.if-not-share.false in
    simp to_z-of_z (new_lesser (map pos c.args.ours.now) c.args.piece.now c.args.level c.args.factor c.args.least c.in_ok-value.value t s l)
