use Rattle.std.proofs.Common.{◌≡◌, ◌∙◌, ap, sym, refl, get_or, pos, rules, arith, to_z, SFits, w64}
use Rattle.std.proofs.lemmas.Int.{to_z-of_z}
use Rattle.std.proofs.lemmas.List.{take_all}
use Rattle.ch_affine.specs.Affine.{dot}
use Rattle.ch_plan.specs.declared.plan.Term.{Term}
use Rattle.ch_plan.specs.Planned.{weighed}
use Rattle.ch_plan.proofs.Spots.{terms_next, terms_skip}
use Rattle.ch_plan.proofs.accesses.terms_of.Goals as goal
use Rattle.ch_plan.proofs.accesses.terms_of.Goals.{then-coefs-k-ne0+in_ok-push, else-coefs-k-ne0}

pub loop-k-init : goal.loop-k-init
loop-k-init c = λ point. ap (λ ts. weighed ts point) c.new-terms.ensures

pub loop-k-preserved : goal.loop-k-preserved
loop-k-preserved c = λ point.
    let f : SFits w64 (get_or c.args.coefs.now c.loop-k.k (pos 0)) = search rules in
    let term : Term = record { level = c.loop-k.k; coef = get_or c.args.coefs.now c.loop-k.k (pos 0) } in
    elim c.if-coefs-k-ne0.branch [
      | then-coefs-k-ne0+in_ok-push w ↦
          let pushed = simp to_z-of_z at w.in_ok-push.ensures.ok in
          terms_next c.args.coefs.now point c.loop-k.terms c.if-coefs-k-ne0.terms term c.loop-k.k c.loop-k-test.true (w.terms-is ∙ pushed) refl refl (c.loop-k.invariant point)
      | else-coefs-k-ne0 w ↦
          let zero : get_or c.args.coefs.now c.loop-k.k (pos 0) ≡ pos 0 = sym (to_z-of_z w64 (get_or c.args.coefs.now c.loop-k.k (pos 0)) f) ∙ ap (to_z w64) w.if-coefs-k-ne0.false in
          ap (λ ts. weighed ts point) w.terms-is ∙ terms_skip c.args.coefs.now point c.loop-k.terms c.loop-k.k c.loop-k-test.true zero (c.loop-k.invariant point)
    ]

pub returns : goal.returns
returns c = λ point. c.loop-k.invariant point ∙ ap (λ cs. dot cs point) (take_all c.loop-k.k c.args.coefs.now (omega arith))
