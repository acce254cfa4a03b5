use Rattle.std.proofs.Common.{◌≡◌, ◌∙◌, ◌<◌, ap, sym, refl, get_or, length, pos, rules, arith, subst, take, to_z, SFits, w64}
use Rattle.std.proofs.lemmas.Int.{to_z-of_z}
use Rattle.std.proofs.lemmas.List.{take_all}
use Rattle.ch_affine.specs.Affine.{dot}
use Rattle.ch_plan.specs.declared.plan.Weight.{Weight}
use Rattle.ch_plan.specs.Planned.{mixed}
use Rattle.ch_plan.specs.Ready.{IsSumOf, iters_at}
use Rattle.ch_plan.proofs.Spots.{weights_next, weights_skip}
use Rattle.ch_plan.proofs.accesses.weights_of.Goals as goal
use Rattle.ch_plan.proofs.accesses.weights_of.Goals.{then-coefs-k-ne0+in_ok-sum+in_ok-push, else-coefs-k-ne0}

pub loop-k-init : goal.loop-k-init
loop-k-init c = λ point p. ap (λ ws. mixed ws point) c.new-weights.ensures

pub loop-k-preserved : goal.loop-k-preserved
loop-k-preserved c = λ point p.
    let f : SFits w64 (get_or c.args.coefs.now c.loop-k.k (pos 0)) = search rules in
    let below : c.loop-k.k < length c.args.site.now.origin.now = omega (arith, c.loop-k-test.true, c.requires.same) in
    elim c.if-coefs-k-ne0.branch [
      | then-coefs-k-ne0+in_ok-sum+in_ok-push w ↦
          let weight : Weight = record { coef = get_or c.args.coefs.now c.loop-k.k (pos 0); sum = w.in_ok-sum.sum } in
          let pushed = simp to_z-of_z at w.in_ok-push.ensures.ok in
          let made : IsSumOf w.index-site-k.result w.in_ok-sum.sum = subst (λ g. IsSumOf g w.in_ok-sum.sum) (sym w.index-site-k.is) w.in_ok-sum.ensures in
          weights_next c.args.site.now.origin.now c.args.site.now.around c.args.coefs.now point c.loop-k.weights c.if-coefs-k-ne0.weights weight w.index-site-k.result c.loop-k.k p c.requires.origin
          c.loop-k-test.true below w.index-site-k.is made refl (w.weights-is ∙ pushed) (c.loop-k.invariant point p)
      | else-coefs-k-ne0 w ↦
          let zero : get_or c.args.coefs.now c.loop-k.k (pos 0) ≡ pos 0 = sym (to_z-of_z w64 (get_or c.args.coefs.now c.loop-k.k (pos 0)) f) ∙ ap (to_z w64) w.if-coefs-k-ne0.false in
          ap (λ ws. mixed ws point) w.weights-is
          ∙ weights_skip c.args.coefs.now (iters_at c.args.site.now.origin.now (take c.args.site.now.around point)) point c.loop-k.weights c.loop-k.k c.loop-k-test.true zero (c.loop-k.invariant point p)
    ]

pub returns : goal.returns
returns c = λ point p.
    c.loop-k.invariant point p ∙ ap (λ cs. dot cs (iters_at c.args.site.now.origin.now (take c.args.site.now.around point))) (take_all c.loop-k.k c.args.coefs.now (omega arith))
