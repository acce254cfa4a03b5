use Rattle.std.proofs.Common.{◌≡◌, ◌<◌, ◌+◌, sym, ap, ◌∙◌, subst, cond, length, map, pos, SFits, w64, arith}
use Rattle.std.proofs.lemmas.Int.{to_z-of_z}
use Rattle.std.proofs.lemmas.List.{length-map, length-set}
use Rattle.ch_fuse.specs.Fused.{fused_places, in_groups}
use Rattle.ch_fuse.specs.Replaced.{replaced}
use Rattle.ch_fuse.proofs.FusedPieces.{deep_inside, fusing_is, fusing_keeps, some_depth}
use Rattle.ch_fuse.proofs.Made.{are_candidates, as_many, far, known}
use Rattle.ch_fuse.proofs.Steps.{next_placed}
use Rattle.ch_moved.specs.Arguments.{natural}
use Rattle.ch_pieces.specs.Candidates.{AreCandidates}
use Rattle.ch_fuse.proofs.fusing.fused_candidates.Goals as goal

pub fused_if-requires-clause-some : goal.fused_if-requires-clause-some
fused_if-requires-clause-some c t =
    let f : SFits w64 c.args.level = c.ranges.level in
    let e : c.natural-depth.result ≡ natural c.args.level = simp to_z-of_z at c.natural-depth.ensures in
    some_depth c.args.space.now.list c.args.numbers.now c.args.level c.natural-depth.result (pos c.body_width-width.result) (pos c.first_place-first.result) e c.body_width-width.ensures.value
    c.first_place-first.ensures c.requires (map pos c.as_slice-places.result.now) (sym c.in_groups-is_fused.ensures ∙ t)

pub fused_if-requires-clause-deep : goal.fused_if-requires-clause-deep
fused_if-requires-clause-deep c t =
    let h : c.natural-depth.result < length (map pos c.as_slice-places.result.now) =
    deep_inside c.args.space.now.list c.args.numbers.now (pos c.natural-depth.result) (map pos c.as_slice-places.result.now) (sym c.in_groups-is_fused.ensures ∙ t) in
    let m = length-map c.as_slice-places.result.now pos in
    omega arith

pub loop-k-preserved : goal.loop-k-preserved
loop-k-preserved c =
    let inside = in_groups c.args.space.now.list c.args.numbers.now (pos c.natural-depth.result) in
    let f = fused_places c.natural-depth.result (pos c.body_width-width.result) (pos c.first_place-first.result) in
    let here = map pos c.as_slice-places.result.now in
    next_placed (replaced inside f) c.as_slice-pieces.result.now c.loop-k.candidates c.push.new.self c.loop-k.k c.index-pieces-k.result c.in_ok-placed.field-0 (map pos c.in_ok-new.new) c.loop-k-test.true
    c.index-pieces-k.is (c.in_ok-new.ensures ∙ ap (λ b. cond b (f here) here) c.in_groups-is_fused.ensures ∙ ap (λ z. replaced inside f (map pos z)) c.as_slice-places.ensures) c.loop-k.invariant
    c.in_ok-placed.ensures c.in_ok-push.ensures.ok

pub returns-clause-are : goal.returns-clause-are
returns-clause-are c =
    let g : SFits w64 c.args.level = c.ranges.level in
    let e : c.natural-depth.result ≡ natural c.args.level = simp to_z-of_z at c.natural-depth.ensures in
    let old = c.args.space.now in
    let inside = in_groups old.list c.args.numbers.now (pos c.natural-depth.result) in
    let f = fused_places c.natural-depth.result (pos c.body_width-width.result) (pos c.first_place-first.result) in
    let keeps =
    fusing_keeps old.list c.args.numbers.now c.args.level c.natural-depth.result (pos c.body_width-width.result) (pos c.first_place-first.result) e c.body_width-width.ensures.value
    c.first_place-first.ensures c.requires
    (far c.space.inside.arrays c.space.inside.weight c.space.inside.commands c.space.inside.pieces c.space.inside.counts c.space.inside.temps c.args.space.now c.space.invariant c.space.view_is)
    (known c.space.inside.arrays c.space.inside.weight c.space.inside.commands c.space.inside.pieces c.space.inside.counts c.space.inside.temps c.args.space.now c.space.invariant c.space.view_is) in
    subst (λ change. AreCandidates change old.list old.weight (old.commands + 1) c.loop-k.candidates)
    (fusing_is old.list c.args.numbers.now c.args.level c.natural-depth.result (pos c.body_width-width.result) (pos c.first_place-first.result) e c.body_width-width.ensures.value
    c.first_place-first.ensures)
    (are_candidates c.space.inside.arrays c.space.inside.weight c.space.inside.commands c.space.inside.pieces c.space.inside.counts c.space.inside.temps c.args.space.now c.space.invariant c.space.view_is
    inside f (λ v. length-set _ _ _ ∙ length-set v _ _) keeps c.as_slice-pieces.result.now c.loop-k.k c.loop-k.candidates c.as_slice-pieces.ensures c.loop-k-test.false c.loop-k.invariant)

pub returns-clause-many : goal.returns-clause-many
returns-clause-many c =
    as_many c.space.inside.arrays c.space.inside.weight c.space.inside.commands c.space.inside.pieces c.space.inside.counts c.space.inside.temps c.args.space.now c.space.invariant c.space.view_is
    (replaced (in_groups c.args.space.now.list c.args.numbers.now (pos c.natural-depth.result)) (fused_places c.natural-depth.result (pos c.body_width-width.result) (pos c.first_place-first.result)))
    c.as_slice-pieces.result.now c.loop-k.k
    c.loop-k.candidates c.as_slice-pieces.ensures c.loop-k-test.false c.loop-k.invariant
