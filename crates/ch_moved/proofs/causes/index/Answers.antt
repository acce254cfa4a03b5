use Rattle.std.proofs.Common.{ap, sym, SFits, w64, arith}
use Rattle.std.proofs.lemmas.Int.{ints, to_z-of_z}
use Rattle.ch_space.specs.Listed.{Listed}
use Rattle.ch_space.proofs.Readings.{count_is}
use Rattle.ch_moved.proofs.Causing.{piece_number}
use Rattle.ch_moved.proofs.causes.index.Goals as goal

pub overflow_cast-result : goal.overflow_cast-result
overflow_cast-result c =
    let f : SFits w64 c.args.number = c.ranges.number in
    let n = piece_number c.args.space.now.list c.args.number c.requires in
    let l = n.0 in
    let e = n.2 in
    let few = c.space.invariant.few_pieces in
    let m = count_is c.args.space.now.list c.space.inside.pieces c.space.invariant.apart (ap (λ (r : Listed). r.list) c.space.view_is) in
    simp to_z-of_z (omega (arith, ints))

pub returns : goal.returns
returns c =
    let f : SFits w64 c.args.number = c.ranges.number in
    let n = piece_number c.args.space.now.list c.args.number c.requires in
    simp to_z-of_z (sym n.1)
