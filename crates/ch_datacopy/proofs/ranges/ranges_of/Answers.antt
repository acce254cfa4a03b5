use Rattle.std.proofs.Common.{sym, ap, ◌∙◌, subst, length}
use Rattle.ch_affine.specs.Form.{Form}
use Rattle.ch_datacopy.specs.Ranges.{HasSmall}
use Rattle.ch_datacopy.proofs.Ranged.{ranges_all, ranges_more}
use Rattle.ch_datacopy.proofs.ranges.ranges_of.Goals as goal

pub range_of-requires-clause-same : goal.range_of-requires-clause-same
range_of-requires-clause-same c =
    ap (λ (g : Form). length g.coefs) c.form-item.is ∙ c.requires.same c.loop-form.form-index c.form-item.result c.loop-form-test.true

pub range_of-requires-clause-some : goal.range_of-requires-clause-some
range_of-requires-clause-some c =
    subst (HasSmall c.args.most c.args.boxes.now) (sym c.form-item.is) (c.requires.some c.loop-form.form-index c.form-item.result c.loop-form-test.true)

pub loop-form-preserved : goal.loop-form-preserved
loop-form-preserved c =
    ranges_more c.args.most c.args.boxes.now c.args.forms.now c.loop-form.form-index c.loop-form.ranges c.push.new.self c.form-item.result c.range_of.result c.loop-form-test.true c.form-item.is
    c.loop-form.invariant c.range_of.ensures c.in_ok-push.ensures.ok

pub returns : goal.returns
returns c = ranges_all c.args.most c.args.boxes.now c.args.forms.now c.loop-form.form-index c.loop-form.ranges c.loop-form-test.false c.loop-form.invariant
