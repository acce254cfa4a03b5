use Rattle.std.proofs.Common.{◌≡◌, ◌∙◌, ◌+◌, ◌≤◌, refl, sym, ap, subst, map, ◌⊎◌}
use Rattle.std.proofs.lemmas.List.{length-map}
use Rattle.ch_nest.specs.declared.nest.Access.{Access}
use Rattle.ch_timed.specs.Members.{In}
use Rattle.ch_depends.proofs.Bests.{item_below, item_is}
use Rattle.ch_depends.proofs.Gathered.{Gleans, gleaned, gleans_none, gleans_push, gleans_skip, pushed_map}
use Rattle.ch_depends.proofs.sides.other_reads.Goals as goal
use Rattle.ch_depends.proofs.sides.other_reads.Goals.{then-not-is_known+in_ok-push, else-not-is_known}

pub loop-access-preserved : goal.loop-access-preserved
loop-access-preserved c =
    let items = map (λ a. a.now) c.as_slice-access-items.result.now in
    let below = item_below (λ a. a.now) c.as_slice-access-items.result.now c.as_slice-access-items.result.now refl c.loop-access.access-index c.access-item.result c.loop-access-test.true in
    let here = item_is (λ a. a.now) c.as_slice-access-items.result.now c.as_slice-access-items.result.now refl c.loop-access.access-index c.access-item.result c.loop-access-test.true c.access-item.is in
    elim c.if-not-is_known.branch [
      | then-not-is_known+in_ok-push w ↦
          subst (Gleans c.args.body.now.write items (c.loop-access.access-index + 1))
          (sym (pushed_map (λ a. a.now) c.if-not-is_known.found c.loop-access.found _ c.access-item.result.now (w.found-is ∙ w.in_ok-push.ensures.ok) refl))
          (gleans_push c.args.body.now.write items c.loop-access.access-index (map (λ a. a.now) c.loop-access.found) c.access-item.result.now below here c.loop-access.invariant)
      | else-not-is_known w ↦
          subst (λ z. Gleans c.args.body.now.write items (c.loop-access.access-index + 1) (map (λ a. a.now) z)) (sym w.found-is)
          (gleans_skip c.args.body.now.write items c.loop-access.access-index (map (λ a. a.now) c.loop-access.found) c.access-item.result.now below here c.loop-access.invariant
          (subst (λ z. (c.access-item.result.now ≡ c.args.body.now.write) ⊎ In c.access-item.result.now (map (λ (a : _). a.now) z)) c.as_slice.ensures (c.is_known.ensures w.if-not-is_known.false)))
    ]

pub returns : goal.returns
returns c =
    gleaned c.args.body.now (map (λ a. a.now) c.as_slice-access-items.result.now) c.loop-access.access-index (map (λ a. a.now) c.loop-access.found)
    (subst (λ n. n ≤ c.loop-access.access-index) (sym (length-map c.as_slice-access-items.result.now (λ a. a.now))) c.loop-access-test.false)
    (ap (map (λ a. a.now)) c.as_slice-access-items.ensures ∙ c.in_ok-all.ensures) c.loop-access.invariant
