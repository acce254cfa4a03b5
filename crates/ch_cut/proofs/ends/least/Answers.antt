use Rattle.std.proofs.Common.{◌≡◌, ◌≤◌, ◌+◌, ◌++◌, ◌∷◌, [], ap, map, pos, sym, subst, ◌∙◌, length, take, to_z, ◌^◌, SFits, w64, arith}
use Rattle.std.proofs.lemmas.Int.{ints, to_z-of_z}
use Rattle.std.proofs.lemmas.List.{take_all, take_more}
use Rattle.ch_affine.specs.Affine.{IsAtMost}
use Rattle.ch_cut.specs.Ends.{IsBelowAll, IsLesser}
use Rattle.ch_cut.proofs.Leasts.{below_more, first_reached, reached_more}
use Rattle.ch_moved.proofs.Named.{item_at, item_whole}
use Rattle.ch_space.specs.Keeps.{places_of}
use Rattle.ch_space.proofs.PieceElements.{whole_in}
use Rattle.ch_space.proofs.PieceNumbers.{instance_in}
use Rattle.ch_cut.proofs.ends.least.Goals as goal

pub least_in-requires-clause-whole : goal.least_in-requires-clause-whole
least_in-requires-clause-whole c = whole_in c.args.pieces.now c.args.piece.now c.requires.apart c.requires.one

pub least_in-requires-clause-instances : goal.least_in-requires-clause-instances
least_in-requires-clause-instances c = instance_in c.args.pieces.now c.args.piece.now c.requires.apart c.requires.one

pub loop-other-init : goal.loop-other-init
loop-other-init c =
    let f : SFits w64 c.args.factor = c.ranges.factor in
    let n : IsAtMost (2 ^ 54) c.in_ok-least.least = c.in_ok-least.ensures.near in
    let g : SFits w64 c.in_ok-least.least = omega (arith, ints) in
    let l = simp to_z-of_z at c.in_ok-least.ensures.least in
    simp to_z-of_z (record {
      reached = first_reached c.args.pieces.now c.args.piece.now c.args.level c.args.factor c.in_ok-least.least (whole_in c.args.pieces.now c.args.piece.now c.requires.apart c.requires.one) c.requires.deep c.requires.one l;
      below = λ p i. absurd i;
      near = n;
    })

pub lesser-requires-clause-whole : goal.lesser-requires-clause-whole
lesser-requires-clause-whole c = item_whole c.args.pieces.now c.loop-other.other-index c.other-item.result c.requires.apart c.loop-other-test.true c.other-item.is

pub lesser-requires-clause-instances : goal.lesser-requires-clause-instances
lesser-requires-clause-instances c =
    instance_in c.args.pieces.now c.other-item.result c.requires.apart (item_at c.args.pieces.now c.loop-other.other-index c.other-item.result c.loop-other-test.true c.other-item.is)

pub loop-other-preserved : goal.loop-other-preserved
loop-other-preserved c =
    let f : SFits w64 c.args.factor = c.ranges.factor in
    let ps = c.args.pieces.now in
    let p = c.other-item.result in
    let k = c.loop-other.other-index in
    let i = item_at ps k p c.loop-other-test.true c.other-item.is in
    let v = c.in_ok-least-2.least in
    let n : IsAtMost (2 ^ 54) c.in_ok-least-2.least = c.in_ok-least-2.ensures.near in
    let g : SFits w64 c.in_ok-least-2.least = omega (arith, ints) in
    let l : IsLesser (places_of c.args.piece.now) p c.args.level c.args.factor (to_z w64 c.loop-other.least-bits) v =
    subst (λ t. IsLesser (map pos t) p c.args.level c.args.factor (to_z w64 c.loop-other.least-bits) v) c.as_slice-ours.ensures (simp to_z-of_z at c.in_ok-least-2.ensures.lesser) in
    let more : take k ps ++ p ∷ [] ≡ take (k + 1) ps = ap (λ z. take k ps ++ z ∷ []) c.other-item.is ∙ sym (take_more ps k p c.loop-other-test.true) in
    let r = simp to_z-of_z at c.loop-other.invariant.reached in
    let b = simp to_z-of_z at c.loop-other.invariant.below in
    simp to_z-of_z (record {
      reached = reached_more ps p (places_of c.args.piece.now) c.args.level c.args.factor (to_z w64 c.loop-other.least-bits) v i l r;
      below = subst (λ z. IsBelowAll z (places_of c.args.piece.now) c.args.level c.args.factor v) more (below_more (take k ps) p (places_of c.args.piece.now) c.args.level c.args.factor (to_z w64 c.loop-other.least-bits) v l b);
      near = n;
    })

pub returns-clause-least : goal.returns-clause-least
returns-clause-least c =
    let f : SFits w64 c.args.factor = c.ranges.factor in
    let l : length c.args.pieces.now ≤ c.loop-other.other-index = let t = c.loop-other-test.false in omega arith in
    let r = simp to_z-of_z at c.loop-other.invariant.reached in
    let b = simp to_z-of_z at c.loop-other.invariant.below in
    record {
      reached = r;
      below = subst (λ z. IsBelowAll z (places_of c.args.piece.now) c.args.level c.args.factor (to_z w64 c.loop-other.least-bits)) (take_all c.loop-other.other-index c.args.pieces.now l) b;
    }
