use Rattle.std.proofs.Common.{◌∙◌, sym, map, pos, arith}
use Rattle.ch_space.specs.Keeps.{places_of}
use Rattle.ch_unroll.specs.Layouts.{sharing}
use Rattle.ch_unroll.proofs.Layouts.{none_deeper}
use Rattle.ch_unroll.proofs.layout.deepest_shared.Goals as goal

pub loop-deepest-preserved : goal.loop-deepest-preserved
loop-deepest-preserved c =
    let i = c.loop-deepest.invariant in
    let t = c.loop-deepest-test.true in
    let f = i.from in
    let b = i.below in
    record {
      from = omega arith;
      below = omega arith;
      same =
          none_deeper c.args.level c.loop-deepest.deepest _ (map pos c.args.ours.now) (sharing c.args.level (map pos c.args.ours.now) (map places_of c.args.pieces.now)) t
          (sym c.all_share.ensures ∙ c.if-not-all_share.true) i.same;
    }
