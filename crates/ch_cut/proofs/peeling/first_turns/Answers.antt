use Rattle.std.proofs.Common.{◌≡◌, ◌^◌, ap, sym, subst, get_or, unsigned_abs, SFits, w64, arith}
use Rattle.std.proofs.lemmas.Int.{ints, to_z-of_z}
use Rattle.ch_affine.specs.Affine.{IsAtMost}
use Rattle.ch_cut.proofs.Spacing.{at_most_modest, at_most_short, deep_places, few_levels, ok_map, stands, turns_same}
use Rattle.ch_moved.proofs.Causing.{piece_number}
use Rattle.ch_moved.proofs.Named.{item_at, item_whole}
use Rattle.ch_space.specs.Keeps.{AreApart}
use Rattle.ch_space.specs.Listed.{Listed}
use Rattle.ch_space.proofs.Readings.{below_pieces}
use Rattle.ch_cut.proofs.peeling.first_turns.Goals as goal

pub offset_bounds-pieces-number : goal.offset_bounds-pieces-number
offset_bounds-pieces-number c =
    let f : SFits w64 c.args.number = c.ranges.number in
    let g : SFits w64 c.args.level = c.ranges.level in
    let list = c.args.space.now.list in
    let e = ap (λ (r : Listed). r.list) c.space.view_is in
    let st = stands list c.args.number c.args.level c.requires.piece c.requires.level in
    let s = below_pieces list c.space.inside.pieces c.space.invariant.apart e c.as_slice-pieces.result.now (unsigned_abs c.args.number) c.as_slice-pieces.ensures (piece_number list c.args.number st.is_piece).0 in
    let t = c.as_slice-pieces.type_inv in
    simp to_z-of_z (omega arith)

pub bounds-pieces-number : goal.bounds-pieces-number
bounds-pieces-number c =
    let f : SFits w64 c.args.number = c.ranges.number in
    let g : SFits w64 c.args.level = c.ranges.level in
    let list = c.args.space.now.list in
    let e = ap (λ (r : Listed). r.list) c.space.view_is in
    let st = stands list c.args.number c.args.level c.requires.piece c.requires.level in
    let s = below_pieces list c.space.inside.pieces c.space.invariant.apart e c.as_slice-pieces.result.now (unsigned_abs c.args.number) c.as_slice-pieces.ensures (piece_number list c.args.number st.is_piece).0 in
    simp to_z-of_z s

pub last_of_first-requires-clause-one : goal.last_of_first-requires-clause-one
last_of_first-requires-clause-one c =
    let f : SFits w64 c.args.number = c.ranges.number in
    let g : SFits w64 c.args.level = c.ranges.level in
    let list = c.args.space.now.list in
    let e = ap (λ (r : Listed). r.list) c.space.view_is in
    let st = stands list c.args.number c.args.level c.requires.piece c.requires.level in
    let at : c.index-pieces-number.result ≡ get_or c.as_slice-pieces.result.now (unsigned_abs c.args.number) c.index-pieces-number.result = simp to_z-of_z at c.index-pieces-number.is in
    item_at c.as_slice-pieces.result.now (unsigned_abs c.args.number) c.index-pieces-number.result (below_pieces list c.space.inside.pieces c.space.invariant.apart e c.as_slice-pieces.result.now (unsigned_abs c.args.number) c.as_slice-pieces.ensures (piece_number list c.args.number st.is_piece).0) at

pub last_of_first-requires-clause-deep : goal.last_of_first-requires-clause-deep
last_of_first-requires-clause-deep c =
    let f : SFits w64 c.args.number = c.ranges.number in
    let g : SFits w64 c.args.level = c.ranges.level in
    let list = c.args.space.now.list in
    let e = ap (λ (r : Listed). r.list) c.space.view_is in
    let st = stands list c.args.number c.args.level c.requires.piece c.requires.level in
    let at : c.index-pieces-number.result ≡ get_or c.as_slice-pieces.result.now (unsigned_abs c.args.number) c.index-pieces-number.result = simp to_z-of_z at c.index-pieces-number.is in
    let d = deep_places list c.space.inside.pieces c.space.invariant.apart e c.args.number c.args.level st c.as_slice-pieces.result.now c.as_slice-pieces.ensures c.index-pieces-number.result at in
    let w = item_whole c.as_slice-pieces.result.now (unsigned_abs c.args.number) c.index-pieces-number.result (subst AreApart (sym c.as_slice-pieces.ensures) c.space.invariant.apart) (below_pieces list c.space.inside.pieces c.space.invariant.apart e c.as_slice-pieces.result.now (unsigned_abs c.args.number) c.as_slice-pieces.ensures (piece_number list c.args.number st.is_piece).0) at in
    let l = w.places in
    simp to_z-of_z (omega arith)

pub at_most-requires-clause-few : goal.at_most-requires-clause-few
at_most-requires-clause-few c =
    let f : SFits w64 c.args.number = c.ranges.number in
    let g : SFits w64 c.args.level = c.ranges.level in
    let list = c.args.space.now.list in
    let e = ap (λ (r : Listed). r.list) c.space.view_is in
    let st = stands list c.args.number c.args.level c.requires.piece c.requires.level in
    simp to_z-of_z (few_levels c.space.inside.arrays c.space.inside.weight c.space.inside.commands c.space.inside.pieces c.space.inside.counts c.space.inside.temps c.args.number c.args.level list c.space.invariant e st)

pub returns-clause-same : goal.returns-clause-same
returns-clause-same c =
    let f : SFits w64 c.args.number = c.ranges.number in
    let g : SFits w64 c.args.level = c.ranges.level in
    let list = c.args.space.now.list in
    let e = ap (λ (r : Listed). r.list) c.space.view_is in
    let st = stands list c.args.number c.args.level c.requires.piece c.requires.level in
    let at : c.index-pieces-number.result ≡ get_or c.as_slice-pieces.result.now (unsigned_abs c.args.number) c.index-pieces-number.result = simp to_z-of_z at c.index-pieces-number.is in
    let k : SFits w64 c.args.count = c.ranges.count in
    let n : IsAtMost (2 ^ 59) c.in_ok-last.last = c.in_ok-last.ensures.near in
    let v : SFits w64 c.in_ok-last.last = omega (arith, ints) in
    let made = simp to_z-of_z at c.at_most.ensures in
    let front = simp to_z-of_z at c.in_ok-last.ensures.front in
    let back = simp to_z-of_z at c.in_ok-last.ensures.back in
    ok_map c.at_most.result _ _
    (λ f h. turns_same list c.space.inside.pieces c.as_slice-pieces.result.now c.args.number c.args.level c.args.count c.in_ok-last.last c.index-pieces-number.result f c.space.invariant.apart e st
    c.as_slice-pieces.ensures at h front back)
    made

pub returns-clause-short : goal.returns-clause-short
returns-clause-short c =
    let f : SFits w64 c.args.number = c.ranges.number in
    let g : SFits w64 c.args.level = c.ranges.level in
    let list = c.args.space.now.list in
    let e = ap (λ (r : Listed). r.list) c.space.view_is in
    let st = stands list c.args.number c.args.level c.requires.piece c.requires.level in
    let n : IsAtMost (2 ^ 59) c.in_ok-last.last = c.in_ok-last.ensures.near in
    let v : SFits w64 c.in_ok-last.last = omega (arith, ints) in
    let made = simp to_z-of_z at c.at_most.ensures in
    ok_map c.at_most.result _ _ (λ f h. at_most_short (unsigned_abs c.args.level) c.in_ok-last.last c.args.level f st.some st.level_is h) made

pub returns-clause-modest : goal.returns-clause-modest
returns-clause-modest c =
    let g : SFits w64 c.args.level = c.ranges.level in
    let n : IsAtMost (2 ^ 59) c.in_ok-last.last = c.in_ok-last.ensures.near in
    let v : SFits w64 c.in_ok-last.last = omega (arith, ints) in
    let made = simp to_z-of_z at c.at_most.ensures in
    ok_map c.at_most.result _ _ (λ f h. at_most_modest (unsigned_abs c.args.level) c.in_ok-last.last f n h) made
