use Rattle.std.proofs.Common.{ap, ◌∙◌, sym, List, length, ◌*◌, ◌+◌, ◌≤◌, ◌^◌, unsigned_abs, SFits, w64, arith}
use Rattle.std.proofs.lemmas.Int.{to_z-of_z}
use Rattle.ch_moved.specs.Arguments.{natural}
use Rattle.ch_pieces.specs.Candidates.{AreCandidates}
use Rattle.ch_pieces.specs.declared.candidate.Candidate.{Candidate}
use Rattle.ch_space.specs.declared.piece.Piece.{Piece}
use Rattle.ch_space.specs.Listed.{Listed}
use Rattle.ch_space.proofs.PieceElements.{length_pos}
use Rattle.ch_space.proofs.Readings.{below_pieces}
use Rattle.ch_unroll.specs.Unrolled.{unrolls}
use Rattle.ch_unroll.proofs.Allowed.{made_here, may_unroll, our_places}
use Rattle.ch_unroll.proofs.Pushing.{if_ok_more}
use Rattle.ch_unroll.proofs.unrolling.unrolled_candidates.Goals as goal

pub offset_bounds-pieces-piece : goal.offset_bounds-pieces-piece
offset_bounds-pieces-piece c =
    let f : SFits w64 c.args.piece = c.ranges.piece in
    let may = may_unroll c.args.space.now.list c.args.space.now.weight c.args.piece c.args.level c.args.amount c.requires.cause in
    let n = below_pieces c.args.space.now.list c.space.inside.pieces c.space.invariant.apart (ap (λ (r : Listed). r.list) c.space.view_is) c.as_slice-pieces.result.now (unsigned_abs c.args.piece) c.as_slice-pieces.ensures may.number in
    let m = ap length c.as_slice-pieces.ensures in
    let k = c.space.invariant.few_pieces in
    simp to_z-of_z (omega arith)

pub bounds-pieces-piece : goal.bounds-pieces-piece
bounds-pieces-piece c =
    let f : SFits w64 c.args.piece = c.ranges.piece in
    let may = may_unroll c.args.space.now.list c.args.space.now.weight c.args.piece c.args.level c.args.amount c.requires.cause in
    simp to_z-of_z (below_pieces c.args.space.now.list c.space.inside.pieces c.space.invariant.apart (ap (λ (r : Listed). r.list) c.space.view_is) c.as_slice-pieces.result.now (unsigned_abs c.args.piece) c.as_slice-pieces.ensures may.number)

pub laid_out-layout-requires : goal.laid_out-layout-requires
laid_out-layout-requires c =
    let f : SFits w64 c.args.piece = c.ranges.piece in
    let g : SFits w64 c.args.level = c.ranges.level in
    let may = may_unroll c.args.space.now.list c.args.space.now.weight c.args.piece c.args.level c.args.amount c.requires.cause in
    let is = simp to_z-of_z at c.index-pieces-piece.is in
    let ours =
    our_places c.space.inside.pieces c.as_slice-pieces.result.now c.args.space.now.list c.space.invariant.apart c.args.piece c.index-pieces-piece.result c.as_slice-ours.result.now (ap (λ (r : Listed). r.list) c.space.view_is)
    c.as_slice-pieces.ensures may.natural_number may.number is (c.as_slice-ours.ensures ∙ ap (λ (p : Piece). p.places) (sym c.index-pieces-piece.is)) in
    let n = length_pos c.as_slice-ours.result.now in
    let m = ap length ours in
    let d = may.deep_enough in
    simp to_z-of_z (omega arith)

pub copies-requires-clause-placed : goal.copies-requires-clause-placed
copies-requires-clause-placed c =
    let f : SFits w64 c.args.piece = c.ranges.piece in
    let g : SFits w64 c.args.level = c.ranges.level in
    let h : SFits w64 c.args.amount = c.ranges.amount in
    let m =
    made_here c.space.inside.arrays c.space.inside.weight c.space.inside.commands c.space.inside.pieces c.as_slice-pieces.result.now c.space.inside.counts c.space.inside.temps c.args.space.now c.args.piece c.args.level
    c.args.amount c.index-pieces-piece.result c.as_slice-ours.result.now c.laid_out-layout.result c.space.invariant c.space.view_is c.requires.few c.requires.cause c.as_slice-pieces.ensures
    (simp to_z-of_z at c.index-pieces-piece.is) (c.as_slice-ours.ensures ∙ ap (λ (p : Piece). p.places) (sym c.index-pieces-piece.is)) (simp to_z-of_z at c.laid_out-layout.ensures) in
    m.placed

pub returns-clause-are : goal.returns-clause-are
returns-clause-are c =
    let f : SFits w64 c.args.piece = c.ranges.piece in
    let g : SFits w64 c.args.level = c.ranges.level in
    let h : SFits w64 c.args.amount = c.ranges.amount in
    let m =
    made_here c.space.inside.arrays c.space.inside.weight c.space.inside.commands c.space.inside.pieces c.as_slice-pieces.result.now c.space.inside.counts c.space.inside.temps c.args.space.now c.args.piece c.args.level
    c.args.amount c.index-pieces-piece.result c.as_slice-ours.result.now c.laid_out-layout.result c.space.invariant c.space.view_is c.requires.few c.requires.cause c.as_slice-pieces.ensures
    (simp to_z-of_z at c.index-pieces-piece.is) (c.as_slice-ours.ensures ∙ ap (λ (p : Piece). p.places) (sym c.index-pieces-piece.is)) (simp to_z-of_z at c.laid_out-layout.ensures) in
    if_ok_more c.copies.result _
    (AreCandidates (unrolls c.args.space.now.list c.args.piece c.args.level c.args.amount) c.args.space.now.list (c.args.space.now.weight * natural c.args.amount) (c.args.space.now.commands + 1)) m.are c.copies.ensures

pub returns-clause-number : goal.returns-clause-number
returns-clause-number c =
    let f : SFits w64 c.args.piece = c.ranges.piece in
    let g : SFits w64 c.args.level = c.ranges.level in
    let h : SFits w64 c.args.amount = c.ranges.amount in
    let m =
    made_here c.space.inside.arrays c.space.inside.weight c.space.inside.commands c.space.inside.pieces c.as_slice-pieces.result.now c.space.inside.counts c.space.inside.temps c.args.space.now c.args.piece c.args.level
    c.args.amount c.index-pieces-piece.result c.as_slice-ours.result.now c.laid_out-layout.result c.space.invariant c.space.view_is c.requires.few c.requires.cause c.as_slice-pieces.ensures
    (simp to_z-of_z at c.index-pieces-piece.is) (c.as_slice-ours.ensures ∙ ap (λ (p : Piece). p.places) (sym c.index-pieces-piece.is)) (simp to_z-of_z at c.laid_out-layout.ensures) in
    if_ok_more c.copies.result _ (λ (cs : List Candidate). length cs ≤ 2 ^ 20) m.number c.copies.ensures
