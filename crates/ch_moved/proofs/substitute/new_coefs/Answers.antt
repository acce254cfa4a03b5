use Rattle.std.proofs.Common.{◌<◌, ◌≤◌, ap, ◌∙◌, rules, arith, SFits, w64}
use Rattle.std.specs.Int.{w128}
use Rattle.std.proofs.lemmas.Int.{to_z-of_z}
use Rattle.std.proofs.lemmas.List.{take_all}
use Rattle.ch_affine.specs.Affine.{dot}
use Rattle.ch_moved.specs.Spread.{column}
use Rattle.ch_moved.proofs.Fitted.{next_taken, large_coef}
use Rattle.ch_moved.proofs.Substitutes.{front, length_front, coefficient_is}
use Rattle.ch_moved.proofs.substitute.new_coefs.Goals as goal

pub returns-in_default : goal.returns-in_default
returns-in_default c =
    let r : SFits w128 c.coefficient-sum.result = search rules in
    let sum = c.coefficient-sum.ensures ∙ ap (λ cs. dot cs (column c.loop-place.place c.args.forms.now)) (c.as_slice.ensures ∙ ap (λ f. f.coefs) c.row.view_is) in
    large_coef c.args.variables c.args.forms.now c.args.row.now c.loop-place.place _ c.requires.long c.loop-place-test.true sum (simp to_z-of_z at c.in_default.ensures)

pub loop-place-preserved : goal.loop-place-preserved
loop-place-preserved c =
    let r : SFits w128 c.coefficient-sum.result = search rules in
    let n : SFits w64 c.in-Some.number = search rules in
    let sum = c.coefficient-sum.ensures ∙ ap (λ cs. dot cs (column c.loop-place.place c.args.forms.now)) (c.as_slice.ensures ∙ ap (λ f. f.coefs) c.row.view_is) in
    let number = simp to_z-of_z at c.in-Some.ensures in
    let lt : c.loop-place.place < c.args.variables = c.loop-place-test.true in
    let whole = length_front c.args.variables c.args.forms.now c.args.row.now c.requires.long in
    next_taken (front c.args.variables c.args.forms.now c.args.row.now).coefs c.loop-place.coefs c.push.new.self c.loop-place.place c.in-Some.number (omega (arith, whole))
    (number ∙ sum ∙ coefficient_is c.args.variables c.args.forms.now c.args.row.now c.loop-place.place c.requires.long c.loop-place-test.true)
    c.loop-place.invariant (simp to_z-of_z at c.in_ok-push.ensures.ok)

pub returns : goal.returns
returns c =
    let le : c.args.variables ≤ c.loop-place.place = c.loop-place-test.false in
    let whole = length_front c.args.variables c.args.forms.now c.args.row.now c.requires.long in
    c.loop-place.invariant ∙ take_all c.loop-place.place (front c.args.variables c.args.forms.now c.args.row.now).coefs (omega (arith, whole))
