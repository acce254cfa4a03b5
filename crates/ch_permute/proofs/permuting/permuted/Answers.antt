use Rattle.std.proofs.Common.{◌≡◌, ap, ◌∙◌, sym, subst, pos, ◌*◌, ◌+◌, ℕ, unsigned_abs, SFits, w64, arith}
use Rattle.std.specs.Result.{IfOk}
use Rattle.std.proofs.lemmas.Int.{to_z-of_z}
use Rattle.ch_moved.proofs.Causing.{piece_number}
use Rattle.ch_permute.specs.Permuted.{in_moving, moving, permuted, picked}
use Rattle.ch_permute.proofs.Allowed.{may_permute}
use Rattle.ch_order.specs.Legal.{AreAmong}
use Rattle.ch_permute.proofs.Made.{kept_in, makes}
use Rattle.ch_space.specs.Pieces.{listed}
use Rattle.ch_space.specs.Keeps.{IsSpace}
use Rattle.ch_space.specs.Listed.{Listed}
use Rattle.ch_space.proofs.Readings.{below_pieces}
use Rattle.ch_permute.proofs.permuting.permuted.Goals as goal

pub permuted_pieces-requires-clause-number : goal.permuted_pieces-requires-clause-number
permuted_pieces-requires-clause-number c =
    let f : SFits w64 c.args.number = c.ranges.number in
    let n = (piece_number c.args.space.now.list c.args.number (may_permute c.args.space.now.list c.args.number c.args.order.now c.requires.cause).piece).0 in
    simp to_z-of_z (below_pieces c.args.space.now.list c.space.inside.pieces c.space.invariant.apart (ap (λ (r : Listed). r.list) c.space.view_is) c.as_slice.result.now (unsigned_abs c.args.number) c.as_slice.ensures n)

pub closed_space-requires : goal.closed_space-requires
closed_space-requires c =
    let f : SFits w64 c.args.number = c.ranges.number in
    let s = (piece_number c.args.space.now.list c.args.number (may_permute c.args.space.now.list c.args.number c.args.order.now c.requires.cause).piece).2 in
    let h = simp to_z-of_z at c.in_ok-pieces.ensures in
    let w : c.space.inside.weight * 1 ≡ c.space.inside.weight = omega arith in
    let light = c.space.invariant.small_weight in
    let m =
    makes (λ list. in_moving list (pos (unsigned_abs c.args.number)) (moving 1 c.args.order.now)) (picked c.args.order.now) 1 c.space.inside.arrays c.space.inside.weight c.space.inside.commands
    c.space.inside.pieces c.as_slice.result.now c.in_ok-pieces.pieces c.space.inside.counts c.in_ok-counts.counts c.space.inside.temps c.args.space.now (omega arith) c.space.invariant
    c.space.view_is c.requires.few (omega arith) c.as_slice.ensures (c.in_ok-counts.ensures ∙ c.as_slice-2.ensures) h in
    subst (λ (n : ℕ). IsSpace c.args.space.now.arrays c.in_ok-pieces.pieces c.in_ok-counts.counts c.args.space.now.temps n (c.args.space.now.commands + 1)) w m.0

pub returns-clause-list : goal.returns-clause-list
returns-clause-list c =
    let f : SFits w64 c.args.number = c.ranges.number in
    let s = (piece_number c.args.space.now.list c.args.number (may_permute c.args.space.now.list c.args.number c.args.order.now c.requires.cause).piece).2 in
    let h = simp to_z-of_z at c.in_ok-pieces.ensures in
    let light = c.space.invariant.small_weight in
    let m =
    makes (λ list. in_moving list (pos (unsigned_abs c.args.number)) (moving 1 c.args.order.now)) (picked c.args.order.now) 1 c.space.inside.arrays c.space.inside.weight c.space.inside.commands
    c.space.inside.pieces c.as_slice.result.now c.in_ok-pieces.pieces c.space.inside.counts c.in_ok-counts.counts c.space.inside.temps c.args.space.now (omega arith) c.space.invariant
    c.space.view_is c.requires.few (omega arith) c.as_slice.ensures (c.in_ok-counts.ensures ∙ c.as_slice-2.ensures) h in
    subst (λ z. IfOk c.closed_space.result (λ new. new.list ≡ z)) (m.1 ∙ ap (λ z. permuted c.args.space.now.list z c.args.order.now) (sym s)) c.closed_space.ensures.list

pub returns-clause-kept : goal.returns-clause-kept
returns-clause-kept c =
    let f : SFits w64 c.args.number = c.ranges.number in
    let s = (piece_number c.args.space.now.list c.args.number (may_permute c.args.space.now.list c.args.number c.args.order.now c.requires.cause).piece).2 in
    let h = simp to_z-of_z at c.in_ok-pieces.ensures in
    let light = c.space.invariant.small_weight in
    let m =
    makes (λ list. in_moving list (pos (unsigned_abs c.args.number)) (moving 1 c.args.order.now)) (picked c.args.order.now) 1 c.space.inside.arrays c.space.inside.weight c.space.inside.commands
    c.space.inside.pieces c.as_slice.result.now c.in_ok-pieces.pieces c.space.inside.counts c.in_ok-counts.counts c.space.inside.temps c.args.space.now (omega arith) c.space.invariant
    c.space.view_is c.requires.few (omega arith) c.as_slice.ensures (c.in_ok-counts.ensures ∙ c.as_slice-2.ensures) h in
    kept_in c.closed_space.result (listed c.in_ok-pieces.pieces) (λ z. AreAmong c.args.space.now.list z) c.closed_space.ensures.list m.2

pub returns-clause-no_others : goal.returns-clause-no_others
returns-clause-no_others c =
    let f : SFits w64 c.args.number = c.ranges.number in
    let s = (piece_number c.args.space.now.list c.args.number (may_permute c.args.space.now.list c.args.number c.args.order.now c.requires.cause).piece).2 in
    let h = simp to_z-of_z at c.in_ok-pieces.ensures in
    let light = c.space.invariant.small_weight in
    let m =
    makes (λ list. in_moving list (pos (unsigned_abs c.args.number)) (moving 1 c.args.order.now)) (picked c.args.order.now) 1 c.space.inside.arrays c.space.inside.weight c.space.inside.commands
    c.space.inside.pieces c.as_slice.result.now c.in_ok-pieces.pieces c.space.inside.counts c.in_ok-counts.counts c.space.inside.temps c.args.space.now (omega arith) c.space.invariant
    c.space.view_is c.requires.few (omega arith) c.as_slice.ensures (c.in_ok-counts.ensures ∙ c.as_slice-2.ensures) h in
    kept_in c.closed_space.result (listed c.in_ok-pieces.pieces) (λ z. AreAmong z c.args.space.now.list) c.closed_space.ensures.list m.3
