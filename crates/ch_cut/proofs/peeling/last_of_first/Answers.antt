use Rattle.std.proofs.Common.{◌≡◌, ◌^◌, subst, pos, negsuc, ◌+ℤ◌, ◌-ℤ◌, ◌<ℤ◌, SFits, w64, arith}
use Rattle.std.proofs.lemmas.Int.{ints, to_z-of_z}
use Rattle.ch_affine.specs.Affine.{IsAtMost}
use Rattle.ch_cut.specs.Ends.{IsLeastOf}
use Rattle.ch_cut.proofs.Spacing.{from_lt}
use Rattle.ch_space.specs.Keeps.{places_of}
use Rattle.ch_cut.proofs.peeling.last_of_first.Goals as goal

pub returns-then-count-gt0-clause-front : goal.returns-then-count-gt0-clause-front
returns-then-count-gt0-clause-front c =
    let k : SFits w64 c.args.count = c.ranges.count in
    let m = c.requires.count in
    let n : IsAtMost (2 ^ 54) c.in_ok-first.first = c.in_ok-first.ensures.near in
    let v : SFits w64 c.in_ok-first.first = omega (arith, ints) in
    let s : SFits w64 (c.in_ok-first.first +ℤ c.args.count) = omega (arith, ints) in
    let t : SFits w64 ((c.in_ok-first.first +ℤ c.args.count) -ℤ pos 1) = omega (arith, ints) in
    let e : c.in_ok-first.first ≡ (((c.in_ok-first.first +ℤ c.args.count) -ℤ pos 1) +ℤ pos 1) -ℤ c.args.count = omega (arith, ints) in
    simp to_z-of_z (λ h. subst (IsLeastOf c.args.pieces.now (places_of c.args.piece.now) c.args.level (pos 1)) e c.in_ok-first.ensures.least)

pub returns-then-count-gt0-clause-back : goal.returns-then-count-gt0-clause-back
returns-then-count-gt0-clause-back c =
    let k : SFits w64 c.args.count = c.ranges.count in
    let t : pos 0 <ℤ c.args.count = from_lt (pos 0) c.args.count (simp to_z-of_z at c.if-count-gt0.true) in
    λ h. absurd (omega (arith, ints))

pub returns-clause-back : goal.returns-clause-back
returns-clause-back c =
    let k : SFits w64 c.args.count = c.ranges.count in
    let m = c.requires.count in
    let n : IsAtMost (2 ^ 54) c.in_ok-opposite.opposite = c.in_ok-opposite.ensures.near in
    let v : SFits w64 c.in_ok-opposite.opposite = omega (arith, ints) in
    let s : SFits w64 (c.args.count -ℤ c.in_ok-opposite.opposite) = omega (arith, ints) in
    let e : c.in_ok-opposite.opposite ≡ c.args.count -ℤ (c.args.count -ℤ c.in_ok-opposite.opposite) = omega (arith, ints) in
    simp to_z-of_z (λ h. subst (IsLeastOf c.args.pieces.now (places_of c.args.piece.now) c.args.level (negsuc 0)) e c.in_ok-opposite.ensures.least)
