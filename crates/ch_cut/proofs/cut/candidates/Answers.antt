use Rattle.std.proofs.Common.{◌≡◌, ap, sym, ◌∙◌, length, map, pos, get_or, unsigned_abs, SFits, w64, arith}
use Rattle.std.proofs.lemmas.Int.{to_z-of_z}
use Rattle.ch_cut.proofs.Spacing.{deep_places, made, made_few, stands}
use Rattle.ch_moved.proofs.Causing.{piece_number}
use Rattle.ch_space.specs.declared.piece.Piece.{Piece}
use Rattle.ch_space.specs.Listed.{Listed}
use Rattle.ch_space.proofs.Readings.{below_pieces}
use Rattle.ch_cut.proofs.cut.candidates.Goals as goal

pub offset_bounds-pieces-number : goal.offset_bounds-pieces-number
offset_bounds-pieces-number c =
    let f : SFits w64 c.args.number = c.ranges.number in
    let g : SFits w64 c.args.level = c.ranges.level in
    let list = c.args.space.now.list in
    let e = ap (λ (r : Listed). r.list) c.space.view_is in
    let st = stands list c.args.number c.args.level c.requires.piece c.requires.level in
    let s = below_pieces list c.space.inside.pieces c.space.invariant.apart e c.as_slice-pieces.result.now (unsigned_abs c.args.number) c.as_slice-pieces.ensures (piece_number list c.args.number st.is_piece).0 in
    let t = c.as_slice-pieces.type_inv in
    simp to_z-of_z (omega arith)

pub bounds-pieces-number : goal.bounds-pieces-number
bounds-pieces-number c =
    let f : SFits w64 c.args.number = c.ranges.number in
    let g : SFits w64 c.args.level = c.ranges.level in
    let list = c.args.space.now.list in
    let e = ap (λ (r : Listed). r.list) c.space.view_is in
    let st = stands list c.args.number c.args.level c.requires.piece c.requires.level in
    let s = below_pieces list c.space.inside.pieces c.space.invariant.apart e c.as_slice-pieces.result.now (unsigned_abs c.args.number) c.as_slice-pieces.ensures (piece_number list c.args.number st.is_piece).0 in
    simp to_z-of_z s

pub all_parts-requires-clause-deep : goal.all_parts-requires-clause-deep
all_parts-requires-clause-deep c =
    let f : SFits w64 c.args.number = c.ranges.number in
    let g : SFits w64 c.args.level = c.ranges.level in
    let list = c.args.space.now.list in
    let e = ap (λ (r : Listed). r.list) c.space.view_is in
    let st = stands list c.args.number c.args.level c.requires.piece c.requires.level in
    let at : c.index-pieces-number.result ≡ get_or c.as_slice-pieces.result.now (unsigned_abs c.args.number) c.index-pieces-number.result = simp to_z-of_z at c.index-pieces-number.is in
    let d = deep_places list c.space.inside.pieces c.space.invariant.apart e c.args.number c.args.level st c.as_slice-pieces.result.now c.as_slice-pieces.ensures c.index-pieces-number.result at in
    let o = ap length ((simp to_z-of_z at c.as_slice-ours.ensures) ∙ ap (λ (q : Piece). q.places) (sym at)) in
    simp to_z-of_z (omega arith)

pub returns-clause-are : goal.returns-clause-are
returns-clause-are c =
    let f : SFits w64 c.args.number = c.ranges.number in
    let g : SFits w64 c.args.level = c.ranges.level in
    let list = c.args.space.now.list in
    let e = ap (λ (r : Listed). r.list) c.space.view_is in
    let st = stands list c.args.number c.args.level c.requires.piece c.requires.level in
    let at : c.index-pieces-number.result ≡ get_or c.as_slice-pieces.result.now (unsigned_abs c.args.number) c.index-pieces-number.result = simp to_z-of_z at c.index-pieces-number.is in
    let h = simp to_z-of_z at c.all_parts.ensures in
    made c.space.inside.arrays c.space.inside.weight c.space.inside.commands c.space.inside.pieces c.space.inside.counts c.space.inside.temps c.args.space.now c.args.number c.args.level c.args.form.now
    c.as_slice-pieces.result.now c.index-pieces-number.result c.as_slice-ours.result.now c.all_parts.result c.space.invariant c.space.view_is c.requires.few st c.as_slice-pieces.ensures at ((simp to_z-of_z at c.as_slice-ours.ensures) ∙ ap (λ (q : Piece). q.places) (sym at)) h

pub returns-clause-few : goal.returns-clause-few
returns-clause-few c =
    let g : SFits w64 c.args.level = c.ranges.level in
    let h = simp to_z-of_z at c.all_parts.ensures in
    made_few (unsigned_abs c.args.level) (map pos c.as_slice-ours.result.now) c.args.form.now c.space.inside.pieces c.as_slice-pieces.result.now c.all_parts.result c.space.invariant.few_pieces c.as_slice-pieces.ensures h
