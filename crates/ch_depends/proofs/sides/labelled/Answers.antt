use Rattle.std.proofs.Common.{◌≡◌, ◌∙◌, ◌+◌, refl, sym, subst, map}
use Rattle.std.proofs.lemmas.Bool.{both_ways}
use Rattle.ch_meeting.specs.Meeting.{IsPlain}
use Rattle.ch_depends.proofs.Gathered.{Gathers, gathered, gathers_push, gathers_skip, pushed_map}
use Rattle.ch_depends.proofs.sides.labelled.Goals as goal
use Rattle.ch_depends.proofs.sides.labelled.Goals.{then-has_label+in_ok-push, else-has_label}

pub loop-piece-preserved : goal.loop-piece-preserved
loop-piece-preserved c =
    elim c.if-has_label.branch [
      | then-has_label+in_ok-push w ↦
          subst (Gathers (λ r. r.label ≡ c.args.label) c.args.pieces.now (c.loop-piece.piece-index + 1))
          (sym (pushed_map (λ r. r.now) c.if-has_label.found c.loop-piece.found _ c.piece-item.result (w.found-is ∙ w.in_ok-push.ensures.ok) refl))
          (gathers_push (λ r. r.label ≡ c.args.label) c.args.pieces.now c.loop-piece.piece-index (map (λ r. r.now) c.loop-piece.found) c.piece-item.result c.loop-piece-test.true c.piece-item.is c.loop-piece.invariant
          (subst IsPlain (sym c.piece-item.is) (c.requires c.loop-piece.piece-index c.piece-item.result c.loop-piece-test.true)) (c.has_label.ensures.0 w.if-has_label.true))
      | else-has_label w ↦
          subst (λ z. Gathers (λ r. r.label ≡ c.args.label) c.args.pieces.now (c.loop-piece.piece-index + 1) (map (λ r. r.now) z)) (sym w.found-is)
          (gathers_skip (λ r. r.label ≡ c.args.label) c.args.pieces.now c.loop-piece.piece-index (map (λ r. r.now) c.loop-piece.found) c.piece-item.result c.loop-piece-test.true c.piece-item.is c.loop-piece.invariant
          (λ h. both_ways _ w.if-has_label.false (c.has_label.ensures.1 h)))
    ]

pub returns-clause-exactly : goal.returns-clause-exactly
returns-clause-exactly c = gathered (λ r. r.label ≡ c.args.label) c.args.pieces.now c.loop-piece.piece-index (map (λ r. r.now) c.loop-piece.found) c.loop-piece-test.false c.loop-piece.invariant
