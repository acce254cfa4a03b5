use Rattle.std.proofs.Common.{◌≡◌, ◌∙◌, ap, sym, pos, ◌-◌, unsigned_abs, get_or, SFits, w64, arith}
use Rattle.std.proofs.lemmas.Int.{to_z-of_z}
use Rattle.std.proofs.lemmas.List.{length-map}
use Rattle.ch_space.specs.Listed.{Listed}
use Rattle.ch_space.specs.Keeps.{places_of}
use Rattle.ch_space.proofs.Readings.{below_pieces, places_at}
use Rattle.ch_moved.proofs.Causing.{depth_is, piece_number}
use Rattle.ch_moved.proofs.causes.depth.Goals as goal

pub offset_bounds-as_slice-number : goal.offset_bounds-as_slice-number
offset_bounds-as_slice-number c =
    let f : SFits w64 c.args.number = c.ranges.number in
    let n = (piece_number c.args.space.now.list c.args.number c.requires).0 in
    let s = below_pieces c.args.space.now.list c.space.inside.pieces c.space.invariant.apart (ap (λ (r : Listed). r.list) c.space.view_is) c.as_slice.result.now (unsigned_abs c.args.number) c.as_slice.ensures n in
    let t = c.as_slice.type_inv in
    simp to_z-of_z (omega arith)

pub bounds-as_slice-number : goal.bounds-as_slice-number
bounds-as_slice-number c =
    let f : SFits w64 c.args.number = c.ranges.number in
    let n = (piece_number c.args.space.now.list c.args.number c.requires).0 in
    let s = below_pieces c.args.space.now.list c.space.inside.pieces c.space.invariant.apart (ap (λ (r : Listed). r.list) c.space.view_is) c.as_slice.result.now (unsigned_abs c.args.number) c.as_slice.ensures n in
    simp to_z-of_z s

pub returns : goal.returns
returns c =
    let f : SFits w64 c.args.number = c.ranges.number in
    let n = (piece_number c.args.space.now.list c.args.number c.requires).0 in
    let p = c.index-as_slice-number.result in
    let at : p ≡ get_or c.as_slice.result.now (unsigned_abs c.args.number) p = simp to_z-of_z at c.index-as_slice-number.is in
    let s =
    ap places_of at
    ∙ places_at c.args.space.now.list c.space.inside.pieces c.space.invariant.apart (ap (λ (r : Listed). r.list) c.space.view_is) c.as_slice.result.now (unsigned_abs c.args.number) p c.as_slice.ensures n in
    let l = length-map p.places pos in
    depth_is c.args.space.now.list c.args.number (places_of p) c.saturating_sub.result c.requires s (c.saturating_sub.ensures ∙ ap (λ m. m - 1) (c.len.ensures ∙ sym l))
