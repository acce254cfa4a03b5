use Rattle.std.proofs.Common.{◌∙◌, ◌+◌, ◌≤◌, refl, sym, subst, map}
use Rattle.std.proofs.lemmas.Bool.{both_ways}
use Rattle.std.proofs.lemmas.List.{length-map}
use Rattle.ch_meeting.specs.Meeting.{HaveCommon, IsPlain}
use Rattle.ch_depends.proofs.Bests.{item_all, item_below, item_is}
use Rattle.ch_depends.proofs.Gathered.{Gathers, gathered, gathers_push, gathers_skip, pushed_map}
use Rattle.ch_depends.proofs.sides.with_common.Goals as goal
use Rattle.ch_depends.proofs.sides.with_common.Goals.{then-branch+in_ok-push, else-branch}

pub have_common-requires-clause-second : goal.have_common-requires-clause-second
have_common-requires-clause-second c =
    item_all (λ r. r.now) c.args.others.now c.args.others.now refl c.loop-other.other-index c.other-item.result IsPlain c.requires.others c.loop-other-test.true c.other-item.is

pub loop-other-preserved : goal.loop-other-preserved
loop-other-preserved c =
    let others = map (λ r. r.now) c.args.others.now in
    let below = item_below (λ r. r.now) c.args.others.now c.args.others.now refl c.loop-other.other-index c.other-item.result c.loop-other-test.true in
    let here = item_is (λ r. r.now) c.args.others.now c.args.others.now refl c.loop-other.other-index c.other-item.result c.loop-other-test.true c.other-item.is in
    elim c.if-branch.branch [
      | then-branch+in_ok-push w ↦
          subst (Gathers (HaveCommon c.args.piece.now) others (c.loop-other.other-index + 1))
          (sym (pushed_map (λ r. r.now) c.if-branch.found c.loop-other.found _ c.other-item.result.now (w.found-is ∙ w.in_ok-push.ensures.ok) refl))
          (gathers_push (HaveCommon c.args.piece.now) others c.loop-other.other-index (map (λ r. r.now) c.loop-other.found) c.other-item.result.now below here c.loop-other.invariant
          (item_all (λ r. r.now) c.args.others.now c.args.others.now refl c.loop-other.other-index c.other-item.result IsPlain c.requires.others c.loop-other-test.true c.other-item.is)
          (c.in_ok-have_common.ensures.0 w.if-branch.true))
      | else-branch w ↦
          subst (λ z. Gathers (HaveCommon c.args.piece.now) others (c.loop-other.other-index + 1) (map (λ r. r.now) z)) (sym w.found-is)
          (gathers_skip (HaveCommon c.args.piece.now) others c.loop-other.other-index (map (λ r. r.now) c.loop-other.found) c.other-item.result.now below here c.loop-other.invariant
          (λ h. both_ways _ w.if-branch.false (c.in_ok-have_common.ensures.1 h)))
    ]

pub returns-clause-exactly : goal.returns-clause-exactly
returns-clause-exactly c =
    gathered (HaveCommon c.args.piece.now) (map (λ r. r.now) c.args.others.now) c.loop-other.other-index (map (λ r. r.now) c.loop-other.found)
    (subst (λ n. n ≤ c.loop-other.other-index) (sym (length-map c.args.others.now (λ r. r.now))) c.loop-other-test.false) c.loop-other.invariant
