use Rattle.std.proofs.Common.{◌≡◌, ◌+◌, ◌-◌, ◌++◌, ◌∷◌, [], ◌≤◌, ◌^◌, refl, sym, ap, ap₂, ◌∙◌, subst, ℕ, List, None, length, map, sum, arith}
use Rattle.std.specs.List.{All}
use Rattle.ch_datacopy.specs.Causes.{above, before_copy, of_plan}
use Rattle.ch_datacopy.specs.Moved.{dimensions, plan_in}
use Rattle.ch_datacopy.specs.Widths.{AreWidths, IsRoomy}
use Rattle.ch_datacopy.specs.declared.candidates.Work.{Work}
use Rattle.ch_datacopy.specs.declared.cells.Cells.{Cells}
use Rattle.ch_datacopy.specs.declared.uses.Way.TheVariants.{Read, Written}
use Rattle.ch_datacopy.proofs.Begun.{all_few, all_long, all_roomy, answers_early, begun, cs_differ, cs_few, cs_known, cs_not_many, cs_whole, deep, few_counts, few_dimensions, few_ours, ins_few, keeps_arrays, labels, last_cause, new_list, new_sizes, new_space, no_cause, p, ready, room, same_done, work_is}
use Rattle.ch_datacopy.proofs.Judging.{at_exit}
use Rattle.ch_moved.specs.Causes.{Answers, IsCause, first_of}
use Rattle.ch_order.specs.Agreement.{KeepsArrays}
use Rattle.ch_space.specs.declared.piece.Piece.{Piece}
use Rattle.ch_space.specs.Keeps.{IsSpace, most_instances}
use Rattle.ch_space.specs.Listed.{Listed}
use Rattle.ch_space.specs.Pieces.{instances, listed}
use Rattle.ch_space.proofs.Readings.{below_pieces}
use Rattle.ch_datacopy.proofs.copying.copied.Goals as goal

pub offset_bounds-old-piece : goal.offset_bounds-old-piece
offset_bounds-old-piece c =
    let n = below_pieces c.args.space.now.list c.space.inside.pieces c.space.invariant.apart (ap (λ (r : Listed). r.list) c.space.view_is) c.as_slice-old.result.now c.args.piece c.as_slice-old.ensures c.requires.inside.some in
    let m = ap length c.as_slice-old.ensures in
    let k = c.space.invariant.few_pieces in
    omega (arith, n, m, k)

pub bounds-old-piece : goal.bounds-old-piece
bounds-old-piece c =
    below_pieces c.args.space.now.list c.space.inside.pieces c.space.invariant.apart (ap (λ (r : Listed). r.list) c.space.view_is) c.as_slice-old.result.now c.args.piece c.as_slice-old.ensures c.requires.inside.some

pub all_moves-requires-clause-deep : goal.all_moves-requires-clause-deep
all_moves-requires-clause-deep c =
    let b = begun c.args.space.now c.args.piece c.args.around c.args.array c.as_slice-old.result.now c.as_slice-ours.result.now c.space.inside.arrays c.space.inside.weight c.space.inside.commands c.space.inside.pieces
    c.space.inside.counts c.space.inside.temps c.index-old-piece.result c.space.invariant c.space.view_is c.requires.inside c.requires.declared c.as_slice-old.ensures c.index-old-piece.is
    (c.as_slice-ours.ensures ∙ ap (λ (q : Piece). q.places) (sym c.index-old-piece.is)) in
    let d = deep c.args.space.now c.args.piece c.args.around c.args.array c.as_slice-old.result.now c.as_slice-ours.result.now b in
    let f = few_ours c.args.space.now c.args.piece c.args.around c.args.array c.as_slice-old.result.now c.as_slice-ours.result.now b in
    omega (arith, d, f)

pub all_moves-requires-clause-reads : goal.all_moves-requires-clause-reads
all_moves-requires-clause-reads c =
    let b = begun c.args.space.now c.args.piece c.args.around c.args.array c.as_slice-old.result.now c.as_slice-ours.result.now c.space.inside.arrays c.space.inside.weight c.space.inside.commands c.space.inside.pieces
    c.space.inside.counts c.space.inside.temps c.index-old-piece.result c.space.invariant c.space.view_is c.requires.inside c.requires.declared c.as_slice-old.ensures c.index-old-piece.is
    (c.as_slice-ours.ensures ∙ ap (λ (q : Piece). q.places) (sym c.index-old-piece.is)) in
    ready c.args.space.now c.args.piece c.args.around c.args.array c.as_slice-old.result.now c.as_slice-ours.result.now b Read

pub all_moves-requires-clause-writes : goal.all_moves-requires-clause-writes
all_moves-requires-clause-writes c =
    let b = begun c.args.space.now c.args.piece c.args.around c.args.array c.as_slice-old.result.now c.as_slice-ours.result.now c.space.inside.arrays c.space.inside.weight c.space.inside.commands c.space.inside.pieces
    c.space.inside.counts c.space.inside.temps c.index-old-piece.result c.space.invariant c.space.view_is c.requires.inside c.requires.declared c.as_slice-old.ensures c.index-old-piece.is
    (c.as_slice-ours.ensures ∙ ap (λ (q : Piece). q.places) (sym c.index-old-piece.is)) in
    ready c.args.space.now c.args.piece c.args.around c.args.array c.as_slice-old.result.now c.as_slice-ours.result.now b Written

pub buffer_extents-requires-clause-roomy : goal.buffer_extents-requires-clause-roomy
buffer_extents-requires-clause-roomy c =
    let b = begun c.args.space.now c.args.piece c.args.around c.args.array c.as_slice-old.result.now c.as_slice-ours.result.now c.space.inside.arrays c.space.inside.weight c.space.inside.commands c.space.inside.pieces
    c.space.inside.counts c.space.inside.temps c.index-old-piece.result c.space.invariant c.space.view_is c.requires.inside c.requires.declared c.as_slice-old.ensures c.index-old-piece.is
    (c.as_slice-ours.ensures ∙ ap (λ (q : Piece). q.places) (sym c.index-old-piece.is)) in
    subst (λ z. All (IsRoomy c.args.around (dimensions c.args.around z)) z) (sym c.as_slice.ensures) (all_roomy c.args.space.now c.args.piece c.args.around c.args.array c.as_slice-old.result.now c.as_slice-ours.result.now b c.in_ok-moves.moves c.in_ok-moves.ensures)

pub buffer_extents-requires-clause-few : goal.buffer_extents-requires-clause-few
buffer_extents-requires-clause-few c =
    let b = begun c.args.space.now c.args.piece c.args.around c.args.array c.as_slice-old.result.now c.as_slice-ours.result.now c.space.inside.arrays c.space.inside.weight c.space.inside.commands c.space.inside.pieces
    c.space.inside.counts c.space.inside.temps c.index-old-piece.result c.space.invariant c.space.view_is c.requires.inside c.requires.declared c.as_slice-old.ensures c.index-old-piece.is
    (c.as_slice-ours.ensures ∙ ap (λ (q : Piece). q.places) (sym c.index-old-piece.is)) in
    subst (λ z. dimensions c.args.around z ≤ 4) (sym c.as_slice.ensures) (few_dimensions c.args.space.now c.args.piece c.args.around c.args.array c.as_slice-old.result.now c.as_slice-ours.result.now b c.in_ok-moves.moves c.in_ok-moves.ensures)

pub returns-in_err-extents-clause-cause : goal.returns-in_err-extents-clause-cause
returns-in_err-extents-clause-cause c =
    let b = begun c.args.space.now c.args.piece c.args.around c.args.array c.as_slice-old.result.now c.as_slice-ours.result.now c.space.inside.arrays c.space.inside.weight c.space.inside.commands c.space.inside.pieces
    c.space.inside.counts c.space.inside.temps c.index-old-piece.result c.space.invariant c.space.view_is c.requires.inside c.requires.declared c.as_slice-old.ensures c.index-old-piece.is
    (c.as_slice-ours.ensures ∙ ap (λ (q : Piece). q.places) (sym c.index-old-piece.is)) in
    at_exit Listed (λ r. Answers r (first_of (of_plan (plan_in c.args.space.now c.args.piece c.args.around c.args.array) c.args.space.now.list))) c.from_residual-in_err-extents.result c.in_err-extents.field-0.0
    c.from_residual-in_err-extents.ensures.1
    (answers_early c.args.space.now c.args.piece c.args.around c.args.array c.as_slice-old.result.now c.as_slice-ours.result.now b c.in_ok-moves.moves c.in_ok-moves.ensures c.in_err-extents.field-0.0
    (subst (λ z. (es : List ℕ) → AreWidths c.args.around (dimensions c.args.around z) z es → IsCause c.in_err-extents.field-0.0 (first_of (before_copy c.as_slice-old.result.now z es))) c.as_slice.ensures
    c.in_err-extents.ensures.cause))

pub overflow_cast-work : goal.overflow_cast-work
overflow_cast-work c =
    let many = c.len.ensures in
    let same = ap (λ (r : Listed). length r.temps) c.space.view_is in
    let most = c.requires.buffers in
    omega (arith, many, same, most)

pub overflow_add-work : goal.overflow_add-work
overflow_add-work c =
    let many = c.len.ensures in
    let same = ap (λ (r : Listed). length r.temps) c.space.view_is in
    let most = c.requires.buffers in
    let arrays = c.space.invariant.few_arrays in
    omega (arith, many, same, most, arrays)

pub overflow_cast-work-2 : goal.overflow_cast-work-2
overflow_cast-work-2 c =
    let b = begun c.args.space.now c.args.piece c.args.around c.args.array c.as_slice-old.result.now c.as_slice-ours.result.now c.space.inside.arrays c.space.inside.weight c.space.inside.commands c.space.inside.pieces
    c.space.inside.counts c.space.inside.temps c.index-old-piece.result c.space.invariant c.space.view_is c.requires.inside c.requires.declared c.as_slice-old.ensures c.index-old-piece.is
    (c.as_slice-ours.ensures ∙ ap (λ (q : Piece). q.places) (sym c.index-old-piece.is)) in
    let none = subst (λ z. (es : List ℕ) → AreWidths c.args.around (dimensions c.args.around z) z es → first_of (before_copy c.as_slice-old.result.now z es) ≡ None) c.as_slice.ensures c.in_ok-extents.ensures.cause in
    let wide = subst (λ z. AreWidths c.args.around (dimensions c.args.around z) z c.in_ok-extents.extents) c.as_slice.ensures c.in_ok-extents.ensures.widths in
    let few = all_few c.args.space.now c.args.piece c.args.around c.args.array c.as_slice-old.result.now c.as_slice-ours.result.now b c.in_ok-moves.moves c.in_ok-moves.ensures none c.in_ok-extents.extents wide in
    let ins = ins_few c.args.space.now c.args.piece c.args.around c.args.array c.as_slice-old.result.now c.as_slice-ours.result.now b c.in_ok-moves.moves c.in_ok-moves.ensures none c.in_ok-extents.extents wide in
    omega (arith, few, ins)

pub overflow_sub-work : goal.overflow_sub-work
overflow_sub-work c =
    let b = begun c.args.space.now c.args.piece c.args.around c.args.array c.as_slice-old.result.now c.as_slice-ours.result.now c.space.inside.arrays c.space.inside.weight c.space.inside.commands c.space.inside.pieces
    c.space.inside.counts c.space.inside.temps c.index-old-piece.result c.space.invariant c.space.view_is c.requires.inside c.requires.declared c.as_slice-old.ensures c.index-old-piece.is
    (c.as_slice-ours.ensures ∙ ap (λ (q : Piece). q.places) (sym c.index-old-piece.is)) in
    let none = subst (λ z. (es : List ℕ) → AreWidths c.args.around (dimensions c.args.around z) z es → first_of (before_copy c.as_slice-old.result.now z es) ≡ None) c.as_slice.ensures c.in_ok-extents.ensures.cause in
    let wide = subst (λ z. AreWidths c.args.around (dimensions c.args.around z) z c.in_ok-extents.extents) c.as_slice.ensures c.in_ok-extents.ensures.widths in
    let few = all_few c.args.space.now c.args.piece c.args.around c.args.array c.as_slice-old.result.now c.as_slice-ours.result.now b c.in_ok-moves.moves c.in_ok-moves.ensures none c.in_ok-extents.extents wide in
    let ins = ins_few c.args.space.now c.args.piece c.args.around c.args.array c.as_slice-old.result.now c.as_slice-ours.result.now b c.in_ok-moves.moves c.in_ok-moves.ensures none c.in_ok-extents.extents wide in
    let long = c.len-2.ensures in
    omega (arith, few, ins, long)

pub overflow_cast-work-3 : goal.overflow_cast-work-3
overflow_cast-work-3 c =
    let b = begun c.args.space.now c.args.piece c.args.around c.args.array c.as_slice-old.result.now c.as_slice-ours.result.now c.space.inside.arrays c.space.inside.weight c.space.inside.commands c.space.inside.pieces
    c.space.inside.counts c.space.inside.temps c.index-old-piece.result c.space.invariant c.space.view_is c.requires.inside c.requires.declared c.as_slice-old.ensures c.index-old-piece.is
    (c.as_slice-ours.ensures ∙ ap (λ (q : Piece). q.places) (sym c.index-old-piece.is)) in
    let none = subst (λ z. (es : List ℕ) → AreWidths c.args.around (dimensions c.args.around z) z es → first_of (before_copy c.as_slice-old.result.now z es) ≡ None) c.as_slice.ensures c.in_ok-extents.ensures.cause in
    let wide = subst (λ z. AreWidths c.args.around (dimensions c.args.around z) z c.in_ok-extents.extents) c.as_slice.ensures c.in_ok-extents.ensures.widths in
    let few = all_few c.args.space.now c.args.piece c.args.around c.args.array c.as_slice-old.result.now c.as_slice-ours.result.now b c.in_ok-moves.moves c.in_ok-moves.ensures none c.in_ok-extents.extents wide in
    let ins = ins_few c.args.space.now c.args.piece c.args.around c.args.array c.as_slice-old.result.now c.as_slice-ours.result.now b c.in_ok-moves.moves c.in_ok-moves.ensures none c.in_ok-extents.extents wide in
    let long = c.len-2.ensures in
    omega (arith, few, ins, long)

pub free_label-requires : goal.free_label-requires
free_label-requires c =
    let b = begun c.args.space.now c.args.piece c.args.around c.args.array c.as_slice-old.result.now c.as_slice-ours.result.now c.space.inside.arrays c.space.inside.weight c.space.inside.commands c.space.inside.pieces
    c.space.inside.counts c.space.inside.temps c.index-old-piece.result c.space.invariant c.space.view_is c.requires.inside c.requires.declared c.as_slice-old.ensures c.index-old-piece.is
    (c.as_slice-ours.ensures ∙ ap (λ (q : Piece). q.places) (sym c.index-old-piece.is)) in
    labels c.args.space.now c.args.piece c.args.around c.args.array c.as_slice-old.result.now c.as_slice-ours.result.now b

pub all_kept-requires-clause-deep : goal.all_kept-requires-clause-deep
all_kept-requires-clause-deep c =
    let b = begun c.args.space.now c.args.piece c.args.around c.args.array c.as_slice-old.result.now c.as_slice-ours.result.now c.space.inside.arrays c.space.inside.weight c.space.inside.commands c.space.inside.pieces
    c.space.inside.counts c.space.inside.temps c.index-old-piece.result c.space.invariant c.space.view_is c.requires.inside c.requires.declared c.as_slice-old.ensures c.index-old-piece.is
    (c.as_slice-ours.ensures ∙ ap (λ (q : Piece). q.places) (sym c.index-old-piece.is)) in
    deep c.args.space.now c.args.piece c.args.around c.args.array c.as_slice-old.result.now c.as_slice-ours.result.now b

pub all_kept-requires-clause-few : goal.all_kept-requires-clause-few
all_kept-requires-clause-few c =
    let b = begun c.args.space.now c.args.piece c.args.around c.args.array c.as_slice-old.result.now c.as_slice-ours.result.now c.space.inside.arrays c.space.inside.weight c.space.inside.commands c.space.inside.pieces
    c.space.inside.counts c.space.inside.temps c.index-old-piece.result c.space.invariant c.space.view_is c.requires.inside c.requires.declared c.as_slice-old.ensures c.index-old-piece.is
    (c.as_slice-ours.ensures ∙ ap (λ (q : Piece). q.places) (sym c.index-old-piece.is)) in
    let none = subst (λ z. (es : List ℕ) → AreWidths c.args.around (dimensions c.args.around z) z es → first_of (before_copy c.as_slice-old.result.now z es) ≡ None) c.as_slice.ensures c.in_ok-extents.ensures.cause in
    let wide = subst (λ z. AreWidths c.args.around (dimensions c.args.around z) z c.in_ok-extents.extents) c.as_slice.ensures c.in_ok-extents.ensures.widths in
    let few = all_few c.args.space.now c.args.piece c.args.around c.args.array c.as_slice-old.result.now c.as_slice-ours.result.now b c.in_ok-moves.moves c.in_ok-moves.ensures none c.in_ok-extents.extents wide in
    let ins = ins_few c.args.space.now c.args.piece c.args.around c.args.array c.as_slice-old.result.now c.as_slice-ours.result.now b c.in_ok-moves.moves c.in_ok-moves.ensures none c.in_ok-extents.extents wide in
    let long = c.len-2.ensures in
    omega (arith, few, ins, long)

pub all_kept-requires-clause-counted : goal.all_kept-requires-clause-counted
all_kept-requires-clause-counted c =
    c.as_slice-2.ensures ∙ c.space.invariant.counted ∙ ap (map (λ (q : Piece). length (instances q))) (sym c.as_slice-old.ensures)

pub push_moves-requires-clause-deep : goal.push_moves-requires-clause-deep
push_moves-requires-clause-deep c =
    let b = begun c.args.space.now c.args.piece c.args.around c.args.array c.as_slice-old.result.now c.as_slice-ours.result.now c.space.inside.arrays c.space.inside.weight c.space.inside.commands c.space.inside.pieces
    c.space.inside.counts c.space.inside.temps c.index-old-piece.result c.space.invariant c.space.view_is c.requires.inside c.requires.declared c.as_slice-old.ensures c.index-old-piece.is
    (c.as_slice-ours.ensures ∙ ap (λ (q : Piece). q.places) (sym c.index-old-piece.is)) in
    deep c.args.space.now c.args.piece c.args.around c.args.array c.as_slice-old.result.now c.as_slice-ours.result.now b

pub push_moves-requires-clause-few : goal.push_moves-requires-clause-few
push_moves-requires-clause-few c =
    let b = begun c.args.space.now c.args.piece c.args.around c.args.array c.as_slice-old.result.now c.as_slice-ours.result.now c.space.inside.arrays c.space.inside.weight c.space.inside.commands c.space.inside.pieces
    c.space.inside.counts c.space.inside.temps c.index-old-piece.result c.space.invariant c.space.view_is c.requires.inside c.requires.declared c.as_slice-old.ensures c.index-old-piece.is
    (c.as_slice-ours.ensures ∙ ap (λ (q : Piece). q.places) (sym c.index-old-piece.is)) in
    let none = subst (λ z. (es : List ℕ) → AreWidths c.args.around (dimensions c.args.around z) z es → first_of (before_copy c.as_slice-old.result.now z es) ≡ None) c.as_slice.ensures c.in_ok-extents.ensures.cause in
    let wide = subst (λ z. AreWidths c.args.around (dimensions c.args.around z) z c.in_ok-extents.extents) c.as_slice.ensures c.in_ok-extents.ensures.widths in
    let few = all_few c.args.space.now c.args.piece c.args.around c.args.array c.as_slice-old.result.now c.as_slice-ours.result.now b c.in_ok-moves.moves c.in_ok-moves.ensures none c.in_ok-extents.extents wide in
    let ins = ins_few c.args.space.now c.args.piece c.args.around c.args.array c.as_slice-old.result.now c.as_slice-ours.result.now b c.in_ok-moves.moves c.in_ok-moves.ensures none c.in_ok-extents.extents wide in
    let long = c.len-2.ensures in
    omega (arith, few, ins, long)

pub push_moves-requires-clause-count : goal.push_moves-requires-clause-count
push_moves-requires-clause-count c =
    let b = begun c.args.space.now c.args.piece c.args.around c.args.array c.as_slice-old.result.now c.as_slice-ours.result.now c.space.inside.arrays c.space.inside.weight c.space.inside.commands c.space.inside.pieces
    c.space.inside.counts c.space.inside.temps c.index-old-piece.result c.space.invariant c.space.view_is c.requires.inside c.requires.declared c.as_slice-old.ensures c.index-old-piece.is
    (c.as_slice-ours.ensures ∙ ap (λ (q : Piece). q.places) (sym c.index-old-piece.is)) in
    let none = subst (λ z. (es : List ℕ) → AreWidths c.args.around (dimensions c.args.around z) z es → first_of (before_copy c.as_slice-old.result.now z es) ≡ None) c.as_slice.ensures c.in_ok-extents.ensures.cause in
    let wide = subst (λ z. AreWidths c.args.around (dimensions c.args.around z) z c.in_ok-extents.extents) c.as_slice.ensures c.in_ok-extents.ensures.widths in
    let few = all_few c.args.space.now c.args.piece c.args.around c.args.array c.as_slice-old.result.now c.as_slice-ours.result.now b c.in_ok-moves.moves c.in_ok-moves.ensures none c.in_ok-extents.extents wide in
    let ins = ins_few c.args.space.now c.args.piece c.args.around c.args.array c.as_slice-old.result.now c.as_slice-ours.result.now b c.in_ok-moves.moves c.in_ok-moves.ensures none c.in_ok-extents.extents wide in
    let long = c.len-2.ensures in
    omega (arith, few, ins, long)

pub push_moves-requires-clause-label : goal.push_moves-requires-clause-label
push_moves-requires-clause-label c =
    let n = c.free_label.ensures.near in
    omega (arith, n)

pub push_moves-requires-clause-levels : goal.push_moves-requires-clause-levels
push_moves-requires-clause-levels c =
    let b = begun c.args.space.now c.args.piece c.args.around c.args.array c.as_slice-old.result.now c.as_slice-ours.result.now c.space.inside.arrays c.space.inside.weight c.space.inside.commands c.space.inside.pieces
    c.space.inside.counts c.space.inside.temps c.index-old-piece.result c.space.invariant c.space.view_is c.requires.inside c.requires.declared c.as_slice-old.ensures c.index-old-piece.is
    (c.as_slice-ours.ensures ∙ ap (λ (q : Piece). q.places) (sym c.index-old-piece.is)) in
    let none = subst (λ z. (es : List ℕ) → AreWidths c.args.around (dimensions c.args.around z) z es → first_of (before_copy c.as_slice-old.result.now z es) ≡ None) c.as_slice.ensures c.in_ok-extents.ensures.cause in
    let wide = subst (λ z. AreWidths c.args.around (dimensions c.args.around z) z c.in_ok-extents.extents) c.as_slice.ensures c.in_ok-extents.ensures.widths in
    subst (λ z. All (λ (u : Cells). u.levels ≡ c.args.around + length z) c.in_ok-moves.moves.all) (sym c.as_slice-sizes.ensures) (all_long c.args.space.now c.args.piece c.args.around c.args.array c.as_slice-old.result.now c.as_slice-ours.result.now b c.in_ok-moves.moves c.in_ok-moves.ensures none c.in_ok-extents.extents wide)

pub push_moves-requires-clause-room : goal.push_moves-requires-clause-room
push_moves-requires-clause-room c =
    let b = begun c.args.space.now c.args.piece c.args.around c.args.array c.as_slice-old.result.now c.as_slice-ours.result.now c.space.inside.arrays c.space.inside.weight c.space.inside.commands c.space.inside.pieces
    c.space.inside.counts c.space.inside.temps c.index-old-piece.result c.space.invariant c.space.view_is c.requires.inside c.requires.declared c.as_slice-old.ensures c.index-old-piece.is
    (c.as_slice-ours.ensures ∙ ap (λ (q : Piece). q.places) (sym c.index-old-piece.is)) in
    let none = subst (λ z. (es : List ℕ) → AreWidths c.args.around (dimensions c.args.around z) z es → first_of (before_copy c.as_slice-old.result.now z es) ≡ None) c.as_slice.ensures c.in_ok-extents.ensures.cause in
    let wide = subst (λ z. AreWidths c.args.around (dimensions c.args.around z) z c.in_ok-extents.extents) c.as_slice.ensures c.in_ok-extents.ensures.widths in
    subst (λ z. c.args.around + length z ≤ 4096) (sym c.as_slice-sizes.ensures) (room c.args.space.now c.args.piece c.args.around c.args.array c.as_slice-old.result.now c.as_slice-ours.result.now b c.in_ok-moves.moves c.in_ok-moves.ensures none c.in_ok-extents.extents wide)

pub assembled-requires-clause-whole : goal.assembled-requires-clause-whole
assembled-requires-clause-whole c =
    let b = begun c.args.space.now c.args.piece c.args.around c.args.array c.as_slice-old.result.now c.as_slice-ours.result.now c.space.inside.arrays c.space.inside.weight c.space.inside.commands c.space.inside.pieces
    c.space.inside.counts c.space.inside.temps c.index-old-piece.result c.space.invariant c.space.view_is c.requires.inside c.requires.declared c.as_slice-old.ensures c.index-old-piece.is
    (c.as_slice-ours.ensures ∙ ap (λ (q : Piece). q.places) (sym c.index-old-piece.is)) in
    let none = subst (λ z. (es : List ℕ) → AreWidths c.args.around (dimensions c.args.around z) z es → first_of (before_copy c.as_slice-old.result.now z es) ≡ None) c.as_slice.ensures c.in_ok-extents.ensures.cause in
    let wide = subst (λ z. AreWidths c.args.around (dimensions c.args.around z) z c.in_ok-extents.extents) c.as_slice.ensures c.in_ok-extents.ensures.widths in
    let work : Work = record {
      around = c.args.around;
      target = record { array = c.args.array; buffer = c.space.inside.arrays + c.len.result };
      ins = c.in_ok-moves.moves.ins;
      outs = c.len-2.result - c.in_ok-moves.moves.ins;
      label = c.free_label.result;
    } in
    let is = work_is c.args.space.now c.args.piece c.args.around c.args.array c.as_slice-old.result.now c.as_slice-ours.result.now b c.in_ok-moves.moves c.in_ok-moves.ensures none c.in_ok-extents.extents wide work c.as_slice-sizes.result.now c.free_label.result c.as_slice-sizes.ensures refl
    (ap₂ (λ (x y : ℕ). x + y) (ap (λ (r : Listed). r.arrays) c.space.view_is) (c.len.ensures ∙ ap (λ (r : Listed). length r.temps) c.space.view_is)) refl refl
    (ap (λ n. n - c.in_ok-moves.moves.ins) c.len-2.ensures) refl c.free_label.ensures.value in
    let kept = c.in_ok-candidates.ensures (p c.args.space.now c.args.piece c.args.around c.args.array c.as_slice-old.result.now c.as_slice-ours.result.now b) is in
    let adds = c.in_ok-push_moves.ensures (p c.args.space.now c.args.piece c.args.around c.args.array c.as_slice-old.result.now c.as_slice-ours.result.now b) is in
    cs_whole c.args.space.now c.args.piece c.args.around c.args.array c.as_slice-old.result.now c.as_slice-ours.result.now b c.in_ok-moves.moves c.in_ok-moves.ensures none c.in_ok-extents.extents wide c.in_ok-candidates.candidates kept c.push_moves.new.candidates adds

pub assembled-requires-clause-few : goal.assembled-requires-clause-few
assembled-requires-clause-few c =
    let b = begun c.args.space.now c.args.piece c.args.around c.args.array c.as_slice-old.result.now c.as_slice-ours.result.now c.space.inside.arrays c.space.inside.weight c.space.inside.commands c.space.inside.pieces
    c.space.inside.counts c.space.inside.temps c.index-old-piece.result c.space.invariant c.space.view_is c.requires.inside c.requires.declared c.as_slice-old.ensures c.index-old-piece.is
    (c.as_slice-ours.ensures ∙ ap (λ (q : Piece). q.places) (sym c.index-old-piece.is)) in
    let none = subst (λ z. (es : List ℕ) → AreWidths c.args.around (dimensions c.args.around z) z es → first_of (before_copy c.as_slice-old.result.now z es) ≡ None) c.as_slice.ensures c.in_ok-extents.ensures.cause in
    let wide = subst (λ z. AreWidths c.args.around (dimensions c.args.around z) z c.in_ok-extents.extents) c.as_slice.ensures c.in_ok-extents.ensures.widths in
    let work : Work = record {
      around = c.args.around;
      target = record { array = c.args.array; buffer = c.space.inside.arrays + c.len.result };
      ins = c.in_ok-moves.moves.ins;
      outs = c.len-2.result - c.in_ok-moves.moves.ins;
      label = c.free_label.result;
    } in
    let is = work_is c.args.space.now c.args.piece c.args.around c.args.array c.as_slice-old.result.now c.as_slice-ours.result.now b c.in_ok-moves.moves c.in_ok-moves.ensures none c.in_ok-extents.extents wide work c.as_slice-sizes.result.now c.free_label.result c.as_slice-sizes.ensures refl
    (ap₂ (λ (x y : ℕ). x + y) (ap (λ (r : Listed). r.arrays) c.space.view_is) (c.len.ensures ∙ ap (λ (r : Listed). length r.temps) c.space.view_is)) refl refl
    (ap (λ n. n - c.in_ok-moves.moves.ins) c.len-2.ensures) refl c.free_label.ensures.value in
    let kept = c.in_ok-candidates.ensures (p c.args.space.now c.args.piece c.args.around c.args.array c.as_slice-old.result.now c.as_slice-ours.result.now b) is in
    let adds = c.in_ok-push_moves.ensures (p c.args.space.now c.args.piece c.args.around c.args.array c.as_slice-old.result.now c.as_slice-ours.result.now b) is in
    cs_few c.args.space.now c.args.piece c.args.around c.args.array c.as_slice-old.result.now c.as_slice-ours.result.now b c.in_ok-moves.moves c.in_ok-moves.ensures none c.in_ok-extents.extents wide c.in_ok-candidates.candidates kept c.push_moves.new.candidates adds

pub assembled-requires-clause-known : goal.assembled-requires-clause-known
assembled-requires-clause-known c =
    let b = begun c.args.space.now c.args.piece c.args.around c.args.array c.as_slice-old.result.now c.as_slice-ours.result.now c.space.inside.arrays c.space.inside.weight c.space.inside.commands c.space.inside.pieces
    c.space.inside.counts c.space.inside.temps c.index-old-piece.result c.space.invariant c.space.view_is c.requires.inside c.requires.declared c.as_slice-old.ensures c.index-old-piece.is
    (c.as_slice-ours.ensures ∙ ap (λ (q : Piece). q.places) (sym c.index-old-piece.is)) in
    let none = subst (λ z. (es : List ℕ) → AreWidths c.args.around (dimensions c.args.around z) z es → first_of (before_copy c.as_slice-old.result.now z es) ≡ None) c.as_slice.ensures c.in_ok-extents.ensures.cause in
    let wide = subst (λ z. AreWidths c.args.around (dimensions c.args.around z) z c.in_ok-extents.extents) c.as_slice.ensures c.in_ok-extents.ensures.widths in
    let work : Work = record {
      around = c.args.around;
      target = record { array = c.args.array; buffer = c.space.inside.arrays + c.len.result };
      ins = c.in_ok-moves.moves.ins;
      outs = c.len-2.result - c.in_ok-moves.moves.ins;
      label = c.free_label.result;
    } in
    let is = work_is c.args.space.now c.args.piece c.args.around c.args.array c.as_slice-old.result.now c.as_slice-ours.result.now b c.in_ok-moves.moves c.in_ok-moves.ensures none c.in_ok-extents.extents wide work c.as_slice-sizes.result.now c.free_label.result c.as_slice-sizes.ensures refl
    (ap₂ (λ (x y : ℕ). x + y) (ap (λ (r : Listed). r.arrays) c.space.view_is) (c.len.ensures ∙ ap (λ (r : Listed). length r.temps) c.space.view_is)) refl refl
    (ap (λ n. n - c.in_ok-moves.moves.ins) c.len-2.ensures) refl c.free_label.ensures.value in
    let kept = c.in_ok-candidates.ensures (p c.args.space.now c.args.piece c.args.around c.args.array c.as_slice-old.result.now c.as_slice-ours.result.now b) is in
    let adds = c.in_ok-push_moves.ensures (p c.args.space.now c.args.piece c.args.around c.args.array c.as_slice-old.result.now c.as_slice-ours.result.now b) is in
    cs_known c.args.space.now c.args.piece c.args.around c.args.array c.as_slice-old.result.now c.as_slice-ours.result.now b c.in_ok-moves.moves c.in_ok-moves.ensures none c.in_ok-extents.extents wide c.in_ok-candidates.candidates kept c.push_moves.new.candidates adds

pub assembled-requires-clause-differ : goal.assembled-requires-clause-differ
assembled-requires-clause-differ c =
    let b = begun c.args.space.now c.args.piece c.args.around c.args.array c.as_slice-old.result.now c.as_slice-ours.result.now c.space.inside.arrays c.space.inside.weight c.space.inside.commands c.space.inside.pieces
    c.space.inside.counts c.space.inside.temps c.index-old-piece.result c.space.invariant c.space.view_is c.requires.inside c.requires.declared c.as_slice-old.ensures c.index-old-piece.is
    (c.as_slice-ours.ensures ∙ ap (λ (q : Piece). q.places) (sym c.index-old-piece.is)) in
    let none = subst (λ z. (es : List ℕ) → AreWidths c.args.around (dimensions c.args.around z) z es → first_of (before_copy c.as_slice-old.result.now z es) ≡ None) c.as_slice.ensures c.in_ok-extents.ensures.cause in
    let wide = subst (λ z. AreWidths c.args.around (dimensions c.args.around z) z c.in_ok-extents.extents) c.as_slice.ensures c.in_ok-extents.ensures.widths in
    let work : Work = record {
      around = c.args.around;
      target = record { array = c.args.array; buffer = c.space.inside.arrays + c.len.result };
      ins = c.in_ok-moves.moves.ins;
      outs = c.len-2.result - c.in_ok-moves.moves.ins;
      label = c.free_label.result;
    } in
    let is = work_is c.args.space.now c.args.piece c.args.around c.args.array c.as_slice-old.result.now c.as_slice-ours.result.now b c.in_ok-moves.moves c.in_ok-moves.ensures none c.in_ok-extents.extents wide work c.as_slice-sizes.result.now c.free_label.result c.as_slice-sizes.ensures refl
    (ap₂ (λ (x y : ℕ). x + y) (ap (λ (r : Listed). r.arrays) c.space.view_is) (c.len.ensures ∙ ap (λ (r : Listed). length r.temps) c.space.view_is)) refl refl
    (ap (λ n. n - c.in_ok-moves.moves.ins) c.len-2.ensures) refl c.free_label.ensures.value in
    let kept = c.in_ok-candidates.ensures (p c.args.space.now c.args.piece c.args.around c.args.array c.as_slice-old.result.now c.as_slice-ours.result.now b) is in
    let adds = c.in_ok-push_moves.ensures (p c.args.space.now c.args.piece c.args.around c.args.array c.as_slice-old.result.now c.as_slice-ours.result.now b) is in
    cs_differ c.args.space.now c.args.piece c.args.around c.args.array c.as_slice-old.result.now c.as_slice-ours.result.now b c.in_ok-moves.moves c.in_ok-moves.ensures none c.in_ok-extents.extents wide c.in_ok-candidates.candidates kept c.push_moves.new.candidates adds

pub assembled-requires-clause-number : goal.assembled-requires-clause-number
assembled-requires-clause-number c =
    let b = begun c.args.space.now c.args.piece c.args.around c.args.array c.as_slice-old.result.now c.as_slice-ours.result.now c.space.inside.arrays c.space.inside.weight c.space.inside.commands c.space.inside.pieces
    c.space.inside.counts c.space.inside.temps c.index-old-piece.result c.space.invariant c.space.view_is c.requires.inside c.requires.declared c.as_slice-old.ensures c.index-old-piece.is
    (c.as_slice-ours.ensures ∙ ap (λ (q : Piece). q.places) (sym c.index-old-piece.is)) in
    let none = subst (λ z. (es : List ℕ) → AreWidths c.args.around (dimensions c.args.around z) z es → first_of (before_copy c.as_slice-old.result.now z es) ≡ None) c.as_slice.ensures c.in_ok-extents.ensures.cause in
    let wide = subst (λ z. AreWidths c.args.around (dimensions c.args.around z) z c.in_ok-extents.extents) c.as_slice.ensures c.in_ok-extents.ensures.widths in
    let work : Work = record {
      around = c.args.around;
      target = record { array = c.args.array; buffer = c.space.inside.arrays + c.len.result };
      ins = c.in_ok-moves.moves.ins;
      outs = c.len-2.result - c.in_ok-moves.moves.ins;
      label = c.free_label.result;
    } in
    let is = work_is c.args.space.now c.args.piece c.args.around c.args.array c.as_slice-old.result.now c.as_slice-ours.result.now b c.in_ok-moves.moves c.in_ok-moves.ensures none c.in_ok-extents.extents wide work c.as_slice-sizes.result.now c.free_label.result c.as_slice-sizes.ensures refl
    (ap₂ (λ (x y : ℕ). x + y) (ap (λ (r : Listed). r.arrays) c.space.view_is) (c.len.ensures ∙ ap (λ (r : Listed). length r.temps) c.space.view_is)) refl refl
    (ap (λ n. n - c.in_ok-moves.moves.ins) c.len-2.ensures) refl c.free_label.ensures.value in
    let kept = c.in_ok-candidates.ensures (p c.args.space.now c.args.piece c.args.around c.args.array c.as_slice-old.result.now c.as_slice-ours.result.now b) is in
    let adds = c.in_ok-push_moves.ensures (p c.args.space.now c.args.piece c.args.around c.args.array c.as_slice-old.result.now c.as_slice-ours.result.now b) is in
    cs_not_many c.args.space.now c.args.piece c.args.around c.args.array c.as_slice-old.result.now c.as_slice-ours.result.now b c.in_ok-moves.moves c.in_ok-moves.ensures none c.in_ok-extents.extents wide c.in_ok-candidates.candidates kept c.push_moves.new.candidates adds

pub too_long-requires : goal.too_long-requires
too_long-requires c =
    let b = begun c.args.space.now c.args.piece c.args.around c.args.array c.as_slice-old.result.now c.as_slice-ours.result.now c.space.inside.arrays c.space.inside.weight c.space.inside.commands c.space.inside.pieces
    c.space.inside.counts c.space.inside.temps c.index-old-piece.result c.space.invariant c.space.view_is c.requires.inside c.requires.declared c.as_slice-old.ensures c.index-old-piece.is
    (c.as_slice-ours.ensures ∙ ap (λ (q : Piece). q.places) (sym c.index-old-piece.is)) in
    let none = subst (λ z. (es : List ℕ) → AreWidths c.args.around (dimensions c.args.around z) z es → first_of (before_copy c.as_slice-old.result.now z es) ≡ None) c.as_slice.ensures c.in_ok-extents.ensures.cause in
    let wide = subst (λ z. AreWidths c.args.around (dimensions c.args.around z) z c.in_ok-extents.extents) c.as_slice.ensures c.in_ok-extents.ensures.widths in
    let work : Work = record {
      around = c.args.around;
      target = record { array = c.args.array; buffer = c.space.inside.arrays + c.len.result };
      ins = c.in_ok-moves.moves.ins;
      outs = c.len-2.result - c.in_ok-moves.moves.ins;
      label = c.free_label.result;
    } in
    let is = work_is c.args.space.now c.args.piece c.args.around c.args.array c.as_slice-old.result.now c.as_slice-ours.result.now b c.in_ok-moves.moves c.in_ok-moves.ensures none c.in_ok-extents.extents wide work c.as_slice-sizes.result.now c.free_label.result c.as_slice-sizes.ensures refl
    (ap₂ (λ (x y : ℕ). x + y) (ap (λ (r : Listed). r.arrays) c.space.view_is) (c.len.ensures ∙ ap (λ (r : Listed). length r.temps) c.space.view_is)) refl refl
    (ap (λ n. n - c.in_ok-moves.moves.ins) c.len-2.ensures) refl c.free_label.ensures.value in
    let kept = c.in_ok-candidates.ensures (p c.args.space.now c.args.piece c.args.around c.args.array c.as_slice-old.result.now c.as_slice-ours.result.now b) is in
    let adds = c.in_ok-push_moves.ensures (p c.args.space.now c.args.piece c.args.around c.args.array c.as_slice-old.result.now c.as_slice-ours.result.now b) is in
    subst (λ z. length z ≤ 2 ^ 20) (sym c.as_slice-3.ensures) (few_counts c.args.space.now c.args.piece c.args.around c.args.array c.as_slice-old.result.now c.as_slice-ours.result.now b c.in_ok-moves.moves c.in_ok-moves.ensures none c.in_ok-extents.extents wide c.in_ok-candidates.candidates kept c.push_moves.new.candidates adds c.in_ok-assembled.assembled.pieces c.in_ok-assembled.assembled.counts c.in_ok-assembled.ensures)

pub returns-in-Some-clause-cause : goal.returns-in-Some-clause-cause
returns-in-Some-clause-cause c =
    let b = begun c.args.space.now c.args.piece c.args.around c.args.array c.as_slice-old.result.now c.as_slice-ours.result.now c.space.inside.arrays c.space.inside.weight c.space.inside.commands c.space.inside.pieces
    c.space.inside.counts c.space.inside.temps c.index-old-piece.result c.space.invariant c.space.view_is c.requires.inside c.requires.declared c.as_slice-old.ensures c.index-old-piece.is
    (c.as_slice-ours.ensures ∙ ap (λ (q : Piece). q.places) (sym c.index-old-piece.is)) in
    let none = subst (λ z. (es : List ℕ) → AreWidths c.args.around (dimensions c.args.around z) z es → first_of (before_copy c.as_slice-old.result.now z es) ≡ None) c.as_slice.ensures c.in_ok-extents.ensures.cause in
    let wide = subst (λ z. AreWidths c.args.around (dimensions c.args.around z) z c.in_ok-extents.extents) c.as_slice.ensures c.in_ok-extents.ensures.widths in
    let work : Work = record {
      around = c.args.around;
      target = record { array = c.args.array; buffer = c.space.inside.arrays + c.len.result };
      ins = c.in_ok-moves.moves.ins;
      outs = c.len-2.result - c.in_ok-moves.moves.ins;
      label = c.free_label.result;
    } in
    let is = work_is c.args.space.now c.args.piece c.args.around c.args.array c.as_slice-old.result.now c.as_slice-ours.result.now b c.in_ok-moves.moves c.in_ok-moves.ensures none c.in_ok-extents.extents wide work c.as_slice-sizes.result.now c.free_label.result c.as_slice-sizes.ensures refl
    (ap₂ (λ (x y : ℕ). x + y) (ap (λ (r : Listed). r.arrays) c.space.view_is) (c.len.ensures ∙ ap (λ (r : Listed). length r.temps) c.space.view_is)) refl refl
    (ap (λ n. n - c.in_ok-moves.moves.ins) c.len-2.ensures) refl c.free_label.ensures.value in
    let kept = c.in_ok-candidates.ensures (p c.args.space.now c.args.piece c.args.around c.args.array c.as_slice-old.result.now c.as_slice-ours.result.now b) is in
    let adds = c.in_ok-push_moves.ensures (p c.args.space.now c.args.piece c.args.around c.args.array c.as_slice-old.result.now c.as_slice-ours.result.now b) is in
    last_cause c.args.space.now c.args.piece c.args.around c.args.array c.as_slice-old.result.now c.as_slice-ours.result.now b c.in_ok-moves.moves c.in_ok-moves.ensures none c.in_ok-extents.extents wide c.in_ok-candidates.candidates kept c.push_moves.new.candidates adds c.in_ok-assembled.assembled.pieces c.in_ok-assembled.assembled.counts c.in_ok-assembled.ensures c.in-Some.shape (sym (c.in-Some.ensures ∙ ap (λ z. above 11 most_instances (sum z)) c.as_slice-3.ensures))

pub invariant_of-result : goal.invariant_of-result
invariant_of-result c =
    let b = begun c.args.space.now c.args.piece c.args.around c.args.array c.as_slice-old.result.now c.as_slice-ours.result.now c.space.inside.arrays c.space.inside.weight c.space.inside.commands c.space.inside.pieces
    c.space.inside.counts c.space.inside.temps c.index-old-piece.result c.space.invariant c.space.view_is c.requires.inside c.requires.declared c.as_slice-old.ensures c.index-old-piece.is
    (c.as_slice-ours.ensures ∙ ap (λ (q : Piece). q.places) (sym c.index-old-piece.is)) in
    let none = subst (λ z. (es : List ℕ) → AreWidths c.args.around (dimensions c.args.around z) z es → first_of (before_copy c.as_slice-old.result.now z es) ≡ None) c.as_slice.ensures c.in_ok-extents.ensures.cause in
    let wide = subst (λ z. AreWidths c.args.around (dimensions c.args.around z) z c.in_ok-extents.extents) c.as_slice.ensures c.in_ok-extents.ensures.widths in
    let work : Work = record {
      around = c.args.around;
      target = record { array = c.args.array; buffer = c.space.inside.arrays + c.len.result };
      ins = c.in_ok-moves.moves.ins;
      outs = c.len-2.result - c.in_ok-moves.moves.ins;
      label = c.free_label.result;
    } in
    let is = work_is c.args.space.now c.args.piece c.args.around c.args.array c.as_slice-old.result.now c.as_slice-ours.result.now b c.in_ok-moves.moves c.in_ok-moves.ensures none c.in_ok-extents.extents wide work c.as_slice-sizes.result.now c.free_label.result c.as_slice-sizes.ensures refl
    (ap₂ (λ (x y : ℕ). x + y) (ap (λ (r : Listed). r.arrays) c.space.view_is) (c.len.ensures ∙ ap (λ (r : Listed). length r.temps) c.space.view_is)) refl refl
    (ap (λ n. n - c.in_ok-moves.moves.ins) c.len-2.ensures) refl c.free_label.ensures.value in
    let kept = c.in_ok-candidates.ensures (p c.args.space.now c.args.piece c.args.around c.args.array c.as_slice-old.result.now c.as_slice-ours.result.now b) is in
    let adds = c.in_ok-push_moves.ensures (p c.args.space.now c.args.piece c.args.around c.args.array c.as_slice-old.result.now c.as_slice-ours.result.now b) is in
    let none_longer = sym (c.too_long.ensures ∙ ap (λ z. above 11 most_instances (sum z)) c.as_slice-3.ensures) ∙ c.in_default.is in
    let temps = c.in_ok-temps.ensures ∙ ap (λ z. z ++ c.in_ok-extents.extents ∷ []) (c.as_slice-4.ensures ∙ ap (λ (r : Listed). r.temps) c.space.view_is) in
    subst (λ t. IsSpace c.space.inside.arrays c.in_ok-assembled.assembled.pieces c.in_ok-assembled.assembled.counts t c.space.inside.weight (c.space.inside.commands + 1)) (sym temps)
    (subst (λ (r : Listed). IsSpace r.arrays c.in_ok-assembled.assembled.pieces c.in_ok-assembled.assembled.counts (c.args.space.now.temps ++ c.in_ok-extents.extents ∷ []) r.weight (r.commands + 1)) (sym c.space.view_is)
    (new_space c.args.space.now c.args.piece c.args.around c.args.array c.as_slice-old.result.now c.as_slice-ours.result.now b c.in_ok-moves.moves c.in_ok-moves.ensures none c.in_ok-extents.extents wide c.in_ok-candidates.candidates kept c.push_moves.new.candidates adds c.in_ok-assembled.assembled.pieces c.in_ok-assembled.assembled.counts c.in_ok-assembled.ensures none_longer c.requires.commands))

pub returns-clause-cause : goal.returns-clause-cause
returns-clause-cause c =
    let b = begun c.args.space.now c.args.piece c.args.around c.args.array c.as_slice-old.result.now c.as_slice-ours.result.now c.space.inside.arrays c.space.inside.weight c.space.inside.commands c.space.inside.pieces
    c.space.inside.counts c.space.inside.temps c.index-old-piece.result c.space.invariant c.space.view_is c.requires.inside c.requires.declared c.as_slice-old.ensures c.index-old-piece.is
    (c.as_slice-ours.ensures ∙ ap (λ (q : Piece). q.places) (sym c.index-old-piece.is)) in
    let none = subst (λ z. (es : List ℕ) → AreWidths c.args.around (dimensions c.args.around z) z es → first_of (before_copy c.as_slice-old.result.now z es) ≡ None) c.as_slice.ensures c.in_ok-extents.ensures.cause in
    let wide = subst (λ z. AreWidths c.args.around (dimensions c.args.around z) z c.in_ok-extents.extents) c.as_slice.ensures c.in_ok-extents.ensures.widths in
    let work : Work = record {
      around = c.args.around;
      target = record { array = c.args.array; buffer = c.space.inside.arrays + c.len.result };
      ins = c.in_ok-moves.moves.ins;
      outs = c.len-2.result - c.in_ok-moves.moves.ins;
      label = c.free_label.result;
    } in
    let is = work_is c.args.space.now c.args.piece c.args.around c.args.array c.as_slice-old.result.now c.as_slice-ours.result.now b c.in_ok-moves.moves c.in_ok-moves.ensures none c.in_ok-extents.extents wide work c.as_slice-sizes.result.now c.free_label.result c.as_slice-sizes.ensures refl
    (ap₂ (λ (x y : ℕ). x + y) (ap (λ (r : Listed). r.arrays) c.space.view_is) (c.len.ensures ∙ ap (λ (r : Listed). length r.temps) c.space.view_is)) refl refl
    (ap (λ n. n - c.in_ok-moves.moves.ins) c.len-2.ensures) refl c.free_label.ensures.value in
    let kept = c.in_ok-candidates.ensures (p c.args.space.now c.args.piece c.args.around c.args.array c.as_slice-old.result.now c.as_slice-ours.result.now b) is in
    let adds = c.in_ok-push_moves.ensures (p c.args.space.now c.args.piece c.args.around c.args.array c.as_slice-old.result.now c.as_slice-ours.result.now b) is in
    let none_longer = sym (c.too_long.ensures ∙ ap (λ z. above 11 most_instances (sum z)) c.as_slice-3.ensures) ∙ c.in_default.is in
    no_cause c.args.space.now c.args.piece c.args.around c.args.array c.as_slice-old.result.now c.as_slice-ours.result.now b c.in_ok-moves.moves c.in_ok-moves.ensures none c.in_ok-extents.extents wide c.in_ok-candidates.candidates kept c.push_moves.new.candidates adds c.in_ok-assembled.assembled.pieces c.in_ok-assembled.assembled.counts c.in_ok-assembled.ensures none_longer

pub returns-clause-list : goal.returns-clause-list
returns-clause-list c =
    let b = begun c.args.space.now c.args.piece c.args.around c.args.array c.as_slice-old.result.now c.as_slice-ours.result.now c.space.inside.arrays c.space.inside.weight c.space.inside.commands c.space.inside.pieces
    c.space.inside.counts c.space.inside.temps c.index-old-piece.result c.space.invariant c.space.view_is c.requires.inside c.requires.declared c.as_slice-old.ensures c.index-old-piece.is
    (c.as_slice-ours.ensures ∙ ap (λ (q : Piece). q.places) (sym c.index-old-piece.is)) in
    let none = subst (λ z. (es : List ℕ) → AreWidths c.args.around (dimensions c.args.around z) z es → first_of (before_copy c.as_slice-old.result.now z es) ≡ None) c.as_slice.ensures c.in_ok-extents.ensures.cause in
    let wide = subst (λ z. AreWidths c.args.around (dimensions c.args.around z) z c.in_ok-extents.extents) c.as_slice.ensures c.in_ok-extents.ensures.widths in
    let work : Work = record {
      around = c.args.around;
      target = record { array = c.args.array; buffer = c.space.inside.arrays + c.len.result };
      ins = c.in_ok-moves.moves.ins;
      outs = c.len-2.result - c.in_ok-moves.moves.ins;
      label = c.free_label.result;
    } in
    let is = work_is c.args.space.now c.args.piece c.args.around c.args.array c.as_slice-old.result.now c.as_slice-ours.result.now b c.in_ok-moves.moves c.in_ok-moves.ensures none c.in_ok-extents.extents wide work c.as_slice-sizes.result.now c.free_label.result c.as_slice-sizes.ensures refl
    (ap₂ (λ (x y : ℕ). x + y) (ap (λ (r : Listed). r.arrays) c.space.view_is) (c.len.ensures ∙ ap (λ (r : Listed). length r.temps) c.space.view_is)) refl refl
    (ap (λ n. n - c.in_ok-moves.moves.ins) c.len-2.ensures) refl c.free_label.ensures.value in
    let kept = c.in_ok-candidates.ensures (p c.args.space.now c.args.piece c.args.around c.args.array c.as_slice-old.result.now c.as_slice-ours.result.now b) is in
    let adds = c.in_ok-push_moves.ensures (p c.args.space.now c.args.piece c.args.around c.args.array c.as_slice-old.result.now c.as_slice-ours.result.now b) is in
    new_list c.args.space.now c.args.piece c.args.around c.args.array c.as_slice-old.result.now c.as_slice-ours.result.now b c.in_ok-moves.moves c.in_ok-moves.ensures none c.in_ok-extents.extents wide c.in_ok-candidates.candidates kept c.push_moves.new.candidates adds c.in_ok-assembled.assembled.pieces c.in_ok-assembled.assembled.counts c.in_ok-assembled.ensures

pub returns-clause-temps : goal.returns-clause-temps
returns-clause-temps c =
    let b = begun c.args.space.now c.args.piece c.args.around c.args.array c.as_slice-old.result.now c.as_slice-ours.result.now c.space.inside.arrays c.space.inside.weight c.space.inside.commands c.space.inside.pieces
    c.space.inside.counts c.space.inside.temps c.index-old-piece.result c.space.invariant c.space.view_is c.requires.inside c.requires.declared c.as_slice-old.ensures c.index-old-piece.is
    (c.as_slice-ours.ensures ∙ ap (λ (q : Piece). q.places) (sym c.index-old-piece.is)) in
    let none = subst (λ z. (es : List ℕ) → AreWidths c.args.around (dimensions c.args.around z) z es → first_of (before_copy c.as_slice-old.result.now z es) ≡ None) c.as_slice.ensures c.in_ok-extents.ensures.cause in
    let wide = subst (λ z. AreWidths c.args.around (dimensions c.args.around z) z c.in_ok-extents.extents) c.as_slice.ensures c.in_ok-extents.ensures.widths in
    let work : Work = record {
      around = c.args.around;
      target = record { array = c.args.array; buffer = c.space.inside.arrays + c.len.result };
      ins = c.in_ok-moves.moves.ins;
      outs = c.len-2.result - c.in_ok-moves.moves.ins;
      label = c.free_label.result;
    } in
    let is = work_is c.args.space.now c.args.piece c.args.around c.args.array c.as_slice-old.result.now c.as_slice-ours.result.now b c.in_ok-moves.moves c.in_ok-moves.ensures none c.in_ok-extents.extents wide work c.as_slice-sizes.result.now c.free_label.result c.as_slice-sizes.ensures refl
    (ap₂ (λ (x y : ℕ). x + y) (ap (λ (r : Listed). r.arrays) c.space.view_is) (c.len.ensures ∙ ap (λ (r : Listed). length r.temps) c.space.view_is)) refl refl
    (ap (λ n. n - c.in_ok-moves.moves.ins) c.len-2.ensures) refl c.free_label.ensures.value in
    let kept = c.in_ok-candidates.ensures (p c.args.space.now c.args.piece c.args.around c.args.array c.as_slice-old.result.now c.as_slice-ours.result.now b) is in
    let adds = c.in_ok-push_moves.ensures (p c.args.space.now c.args.piece c.args.around c.args.array c.as_slice-old.result.now c.as_slice-ours.result.now b) is in
    let temps = c.in_ok-temps.ensures ∙ ap (λ z. z ++ c.in_ok-extents.extents ∷ []) (c.as_slice-4.ensures ∙ ap (λ (r : Listed). r.temps) c.space.view_is) in
    temps ∙ ap (λ z. c.args.space.now.temps ++ z ∷ []) (new_sizes c.args.space.now c.args.piece c.args.around c.args.array c.as_slice-old.result.now c.as_slice-ours.result.now b c.in_ok-moves.moves c.in_ok-moves.ensures none c.in_ok-extents.extents wide c.in_ok-candidates.candidates kept c.push_moves.new.candidates adds c.in_ok-assembled.assembled.pieces c.in_ok-assembled.assembled.counts c.in_ok-assembled.ensures)

pub returns-clause-same : goal.returns-clause-same
returns-clause-same c =
    let b = begun c.args.space.now c.args.piece c.args.around c.args.array c.as_slice-old.result.now c.as_slice-ours.result.now c.space.inside.arrays c.space.inside.weight c.space.inside.commands c.space.inside.pieces
    c.space.inside.counts c.space.inside.temps c.index-old-piece.result c.space.invariant c.space.view_is c.requires.inside c.requires.declared c.as_slice-old.ensures c.index-old-piece.is
    (c.as_slice-ours.ensures ∙ ap (λ (q : Piece). q.places) (sym c.index-old-piece.is)) in
    let none = subst (λ z. (es : List ℕ) → AreWidths c.args.around (dimensions c.args.around z) z es → first_of (before_copy c.as_slice-old.result.now z es) ≡ None) c.as_slice.ensures c.in_ok-extents.ensures.cause in
    let wide = subst (λ z. AreWidths c.args.around (dimensions c.args.around z) z c.in_ok-extents.extents) c.as_slice.ensures c.in_ok-extents.ensures.widths in
    let work : Work = record {
      around = c.args.around;
      target = record { array = c.args.array; buffer = c.space.inside.arrays + c.len.result };
      ins = c.in_ok-moves.moves.ins;
      outs = c.len-2.result - c.in_ok-moves.moves.ins;
      label = c.free_label.result;
    } in
    let is = work_is c.args.space.now c.args.piece c.args.around c.args.array c.as_slice-old.result.now c.as_slice-ours.result.now b c.in_ok-moves.moves c.in_ok-moves.ensures none c.in_ok-extents.extents wide work c.as_slice-sizes.result.now c.free_label.result c.as_slice-sizes.ensures refl
    (ap₂ (λ (x y : ℕ). x + y) (ap (λ (r : Listed). r.arrays) c.space.view_is) (c.len.ensures ∙ ap (λ (r : Listed). length r.temps) c.space.view_is)) refl refl
    (ap (λ n. n - c.in_ok-moves.moves.ins) c.len-2.ensures) refl c.free_label.ensures.value in
    let kept = c.in_ok-candidates.ensures (p c.args.space.now c.args.piece c.args.around c.args.array c.as_slice-old.result.now c.as_slice-ours.result.now b) is in
    let adds = c.in_ok-push_moves.ensures (p c.args.space.now c.args.piece c.args.around c.args.array c.as_slice-old.result.now c.as_slice-ours.result.now b) is in
    same_done c.args.space.now c.args.piece c.args.around c.args.array c.as_slice-old.result.now c.as_slice-ours.result.now b c.in_ok-moves.moves c.in_ok-moves.ensures none c.in_ok-extents.extents wide c.in_ok-candidates.candidates kept c.push_moves.new.candidates adds c.in_ok-assembled.assembled.pieces c.in_ok-assembled.assembled.counts c.in_ok-assembled.ensures

pub returns-clause-keeps : goal.returns-clause-keeps
returns-clause-keeps c =
    let b = begun c.args.space.now c.args.piece c.args.around c.args.array c.as_slice-old.result.now c.as_slice-ours.result.now c.space.inside.arrays c.space.inside.weight c.space.inside.commands c.space.inside.pieces
    c.space.inside.counts c.space.inside.temps c.index-old-piece.result c.space.invariant c.space.view_is c.requires.inside c.requires.declared c.as_slice-old.ensures c.index-old-piece.is
    (c.as_slice-ours.ensures ∙ ap (λ (q : Piece). q.places) (sym c.index-old-piece.is)) in
    let none = subst (λ z. (es : List ℕ) → AreWidths c.args.around (dimensions c.args.around z) z es → first_of (before_copy c.as_slice-old.result.now z es) ≡ None) c.as_slice.ensures c.in_ok-extents.ensures.cause in
    let wide = subst (λ z. AreWidths c.args.around (dimensions c.args.around z) z c.in_ok-extents.extents) c.as_slice.ensures c.in_ok-extents.ensures.widths in
    let work : Work = record {
      around = c.args.around;
      target = record { array = c.args.array; buffer = c.space.inside.arrays + c.len.result };
      ins = c.in_ok-moves.moves.ins;
      outs = c.len-2.result - c.in_ok-moves.moves.ins;
      label = c.free_label.result;
    } in
    let is = work_is c.args.space.now c.args.piece c.args.around c.args.array c.as_slice-old.result.now c.as_slice-ours.result.now b c.in_ok-moves.moves c.in_ok-moves.ensures none c.in_ok-extents.extents wide work c.as_slice-sizes.result.now c.free_label.result c.as_slice-sizes.ensures refl
    (ap₂ (λ (x y : ℕ). x + y) (ap (λ (r : Listed). r.arrays) c.space.view_is) (c.len.ensures ∙ ap (λ (r : Listed). length r.temps) c.space.view_is)) refl refl
    (ap (λ n. n - c.in_ok-moves.moves.ins) c.len-2.ensures) refl c.free_label.ensures.value in
    let kept = c.in_ok-candidates.ensures (p c.args.space.now c.args.piece c.args.around c.args.array c.as_slice-old.result.now c.as_slice-ours.result.now b) is in
    let adds = c.in_ok-push_moves.ensures (p c.args.space.now c.args.piece c.args.around c.args.array c.as_slice-old.result.now c.as_slice-ours.result.now b) is in
    let temps = c.in_ok-temps.ensures ∙ ap (λ z. z ++ c.in_ok-extents.extents ∷ []) (c.as_slice-4.ensures ∙ ap (λ (r : Listed). r.temps) c.space.view_is) in
    subst (λ z. (arrays : List (List ℕ)) → length arrays ≡ c.args.space.now.arrays → KeepsArrays arrays c.args.space.now.list c.args.space.now.temps (listed c.in_ok-assembled.assembled.pieces) z) (sym temps)
    (keeps_arrays c.args.space.now c.args.piece c.args.around c.args.array c.as_slice-old.result.now c.as_slice-ours.result.now b c.in_ok-moves.moves c.in_ok-moves.ensures none c.in_ok-extents.extents wide c.in_ok-candidates.candidates kept c.push_moves.new.candidates adds c.in_ok-assembled.assembled.pieces c.in_ok-assembled.assembled.counts c.in_ok-assembled.ensures)
