use Rattle.std.proofs.Common.{◌≡◌, ◌+ℤ◌, ◌<ℤ◌, pos, arith, rules, SFits, ap, ◌∙◌}
use Rattle.std.specs.Int.{w128}
use Rattle.std.proofs.lemmas.Int.{ints}
use Rattle.std.proofs.lemmas.Option.{same_Some}
use Rattle.ch_affine.specs.Form.{Form}
use Rattle.ch_poly.specs.Boxes.{greatest}
use Rattle.ch_poly.proofs.Bounds.{to_keeps, to_empty}
use Rattle.ch_poly.proofs.narrow.narrow_to.Goals as goal

pub returns-then-most-bound-clause-keeps : goal.returns-then-most-bound-clause-keeps
returns-then-most-bound-clause-keeps c =
    let f : SFits w128 c.greatest-most.result = search rules in
    let b : SFits w128 c.args.bound = c.ranges.bound in
    let less : greatest c.args.form.now c.args.lows.now c.args.highs.now <ℤ c.args.bound = omega (arith, ints, c.greatest-most.ensures) in
    to_empty _ _ _ _ c.requires.same c.requires.boxed.same less

pub returns-clause-keeps : goal.returns-clause-keeps
returns-clause-keeps c =
    let f : SFits w128 c.greatest-most.result = search rules in
    let b : SFits w128 c.args.bound = c.ranges.bound in
    let e = c.as_slice.ensures ∙ ap (λ (f : Form). f.coefs) c.form.view_is in
    let keeps = rw e at c.cut_all.ensures.keeps in
    let slack : c.args.bound +ℤ pos c.abs_diff-slack.result ≡ greatest c.args.form.now c.args.lows.now c.args.highs.now =
    omega (arith, ints, c.greatest-most.ensures, c.abs_diff-slack.ensures) in
    to_keeps _ _ _ _ _ _ _ c.requires.same c.requires.boxed.same slack keeps

pub returns-clause-changed : goal.returns-clause-changed
returns-clause-changed c = λ e. c.cut_all.ensures.changed (same_Some _ _ e)
