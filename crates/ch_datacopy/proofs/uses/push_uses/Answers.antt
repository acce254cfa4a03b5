use Rattle.std.proofs.Common.{◌+◌, sym, ap, ◌∙◌, subst, add-one, map, pos, take}
use Rattle.ch_datacopy.specs.Sources.{AddsCells, AreReady, accesses_by, from_piece, sources}
use Rattle.ch_datacopy.proofs.Steps.{adds_none, uses_all, uses_no, uses_yes}
use Rattle.ch_space.specs.Keeps.{places_of}
use Rattle.ch_timed.specs.Vectors.{shares}
use Rattle.ch_datacopy.proofs.uses.push_uses.Goals as goal
use Rattle.ch_datacopy.proofs.uses.push_uses.Goals.{then-share+in_ok-push_used, else-share}

pub loop-piece-init : goal.loop-piece-init
loop-piece-init c = adds_none c.args.chosen.around c.args.all.now

pub push_used-requires : goal.push_used-requires
push_used-requires c =
    let same = ap (λ z. shares (c.args.chosen.around + 1) (map pos c.args.ours.now) (map pos z)) (sym c.as_slice.ensures) in
    record {
      ready = subst (AreReady c.args.chosen.around c.args.chosen.way c.args.chosen.array (map pos c.args.ours.now)) (sym c.piece-item.is)
          (c.requires.ready c.loop-piece.piece-index c.piece-item.result c.loop-piece-test.true)
          (ap (λ n. shares n (map pos c.args.ours.now) (places_of c.piece-item.result)) (sym (add-one c.args.chosen.around)) ∙ same ∙ sym c.if-share.ensures);
    }

pub loop-piece-preserved : goal.loop-piece-preserved
loop-piece-preserved c =
    let same = ap (λ z. shares (c.args.chosen.around + 1) (map pos c.args.ours.now) (map pos z)) (sym c.as_slice.ensures) in
    elim c.if-share.branch [
      | then-share+in_ok-push_used w ↦
          uses_yes c.args.chosen.way c.args.chosen.array (map pos c.args.ours.now) c.args.chosen.around c.args.pieces.now c.loop-piece.piece-index c.piece-item.result c.args.all.now c.loop-piece.all c.if-share.all
          c.loop-piece-test.true c.piece-item.is (same ∙ sym w.if-share.ensures) c.loop-piece.invariant
          (subst (AddsCells c.args.chosen.around (from_piece c.piece-item.result (accesses_by c.args.chosen.way c.args.chosen.array c.piece-item.result.body)) c.loop-piece.all) (sym w.all-is) w.in_ok-push_used.ensures)
      | else-share w ↦
          subst (AddsCells c.args.chosen.around (sources c.args.chosen.way c.args.chosen.array (map pos c.args.ours.now) c.args.chosen.around (take (c.loop-piece.piece-index + 1) c.args.pieces.now)) c.args.all.now) (sym w.all-is)
          (uses_no c.args.chosen.way c.args.chosen.array (map pos c.args.ours.now) c.args.chosen.around c.args.pieces.now c.loop-piece.piece-index c.piece-item.result c.args.all.now c.loop-piece.all
          c.loop-piece-test.true c.piece-item.is (same ∙ sym w.if-share.ensures) c.loop-piece.invariant)
    ]

pub returns : goal.returns
returns c = uses_all c.args.chosen.way c.args.chosen.array (map pos c.args.ours.now) c.args.chosen.around c.args.pieces.now c.loop-piece.piece-index c.args.all.now c.loop-piece.all c.loop-piece-test.false c.loop-piece.invariant
