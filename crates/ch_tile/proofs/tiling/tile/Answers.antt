use Rattle.std.proofs.Common.{sym, subst, ◌∙◌, ◌<◌, length, SFits, w64, arith}
use Rattle.std.proofs.lemmas.Int.{ints, to_z-of_z}
use Rattle.ch_moved.proofs.Causing.{piece_number}
use Rattle.ch_timed.specs.Timed.{pieces}
use Rattle.ch_tile.proofs.Allowed.{may_deepen, may_share, may_tile, number_is, same_arguments}
use Rattle.ch_tile.proofs.tiling.tile.Goals as goal

pub overflow_cast-size : goal.overflow_cast-size
overflow_cast-size c =
    let f : SFits w64 c.args.piece = c.ranges.piece in
    let g : SFits w64 c.args.level = c.ranges.level in
    let h : SFits w64 c.args.size = c.ranges.size in
    let i : SFits w64 c.args.outer = c.ranges.outer in
    let m = may_tile c.args.space.now.list c.args.piece c.args.level c.args.size c.args.outer (sym (simp to_z-of_z at c.tile_cause.ensures) ∙ c.in_default.is) in
    let e = number_is c.args.size m.some in
    let s = m.small in
    simp to_z-of_z (rw e (tt, record { fits = omega (arith, ints) }))

pub tiled-requires : goal.tiled-requires
tiled-requires c =
    let f : SFits w64 c.args.piece = c.ranges.piece in
    let g : SFits w64 c.args.level = c.ranges.level in
    let h : SFits w64 c.args.size = c.ranges.size in
    let i : SFits w64 c.args.outer = c.ranges.outer in
    let m = may_tile c.args.space.now.list c.args.piece c.args.level c.args.size c.args.outer (sym (simp to_z-of_z at c.tile_cause.ensures) ∙ c.in_default.is) in
    let n = simp to_z-of_z at c.index-number.ensures in
    let p = piece_number c.args.space.now.list c.args.piece m.piece in
    let around = m.around in
    let inside = m.inside in
    let some = m.some in
    let small = m.small in
    simp to_z-of_z (record {
      few = c.requires.few;
      number = subst (λ k. k < length (pieces c.args.space.now.list)) (sym (n ∙ p.1)) p.0;
      around = omega (arith, ints);
      outer = omega (arith, ints);
      some = omega (arith, ints);
      small = omega (arith, ints);
      shared = may_share c.args.space.now.list c.args.piece c.args.level c.args.size c.args.outer c.index-number.result m n;
      shallow = may_deepen c.args.space.now.list c.args.piece c.args.level c.args.size c.args.outer c.index-number.result m n;
    })

pub returns-clause-list : goal.returns-clause-list
returns-clause-list c =
    let f : SFits w64 c.args.piece = c.ranges.piece in
    let g : SFits w64 c.args.level = c.ranges.level in
    let h : SFits w64 c.args.size = c.ranges.size in
    let i : SFits w64 c.args.outer = c.ranges.outer in
    let m = may_tile c.args.space.now.list c.args.piece c.args.level c.args.size c.args.outer (sym (simp to_z-of_z at c.tile_cause.ensures) ∙ c.in_default.is) in
    let n = simp to_z-of_z at c.index-number.ensures in
    (simp to_z-of_z at c.in_ok-new.ensures.list) ∙ same_arguments c.args.space.now.list c.args.piece c.args.level c.args.size c.args.outer c.index-number.result m n
