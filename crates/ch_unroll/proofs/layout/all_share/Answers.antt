use Rattle.std.proofs.Common.{ap, sym, ◌∙◌, map, pos}
use Rattle.ch_timed.specs.Vectors.{shares}
use Rattle.ch_space.specs.Keeps.{places_of}
use Rattle.ch_unroll.proofs.Layouts.{not_all}
use Rattle.ch_unroll.proofs.layout.all_share.Goals as goal

pub returns-then-not-share : goal.returns-then-not-share
returns-then-not-share c =
    let p = ap (map pos) c.as_slice-places.ensures ∙ ap places_of c.piece-item.is in
    not_all c.args.level c.args.deeper (map pos c.args.ours.now) c.args.pieces.now c.loop-piece.piece-index c.piece-item.result c.loop-piece-test.true
    (sym (c.share.ensures ∙ ap (shares c.args.level (map pos c.args.ours.now)) p) ∙ c.if-share.true)
    (sym (c.share-then-share.ensures ∙ ap (shares c.args.deeper (map pos c.args.ours.now)) p) ∙ c.if-not-share.true)
