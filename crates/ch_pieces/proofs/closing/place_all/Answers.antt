use Rattle.std.proofs.Common.{refl, ap, length, length-append, length-set, arith}
use Rattle.ch_space.proofs.ClosedPieces.{one_placed, all_placed_now}
use Rattle.ch_pieces.proofs.closing.place_all.Goals as goal

pub loop-places-preserved : goal.loop-places-preserved
loop-places-preserved c =
    let e = c.in-Some.ensures in
    let few = c.loop-places.invariant.few in
    let m = simp length-append at (ap length e) in
    record {
      few = rw length-set (omega (arith, m));
      left = one_placed c.loop-places.pieces _ c.args.pieces.now c.loop-places.closed c.pop.new.self c.args.closed c.in-Some.places c.len.result c.index-pieces-len.result c.loop-places.invariant.few
          c.loop-places.invariant.left e c.len.ensures refl;
    }

pub returns : goal.returns
returns c = all_placed_now c.loop-places.pieces c.args.pieces.now c.loop-places.closed c.args.closed c.in_default.ensures.0 c.loop-places.invariant.left
