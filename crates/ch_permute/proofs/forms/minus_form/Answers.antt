use Rattle.std.proofs.Common.{◌≡◌, sym, ◌∙◌, ap, subst, ◌-◌, get_or, length, SFits, w64}
use Rattle.std.specs.Result.{IfOk}
use Rattle.std.proofs.lemmas.Int.{to_z-of_z}
use Rattle.ch_affine.specs.Affine.{form}
use Rattle.ch_space.specs.Built.{unit}
use Rattle.ch_permute.specs.Lowered.{less, minus_forms}
use Rattle.ch_permute.proofs.Steps.{minus_at, minus_other}
use Rattle.ch_permute.proofs.forms.minus_form.Goals as goal

pub returns-then-k-level : goal.returns-then-k-level
returns-then-k-level c =
    let g : SFits w64 c.args.amount = c.ranges.amount in
    let f = form c.args.amounts.now c.args.amount in
    let e : get_or (minus_forms f c.args.level c.args.levels) c.args.k (unit 0 0) ≡ less f (c.args.level - length f.coefs) (c.args.levels - 1 - c.args.level) =
    ap (λ k. get_or (minus_forms f c.args.level c.args.levels) k (unit 0 0)) c.if-k-level.true ∙ minus_at f c.args.level c.args.levels c.requires.level in
    let h = simp to_z-of_z at c.less.ensures in
    subst (λ z. IfOk c.less.result (λ made. made ≡ z)) (sym e) h

pub returns-else-k-level : goal.returns-else-k-level
returns-else-k-level c =
    let f = form c.args.amounts.now c.args.amount in
    subst (λ z. IfOk c.unit.result (λ made. made ≡ z)) (sym (minus_other f c.args.level c.args.levels c.args.k c.requires.k c.if-k-level.false)) c.unit.ensures
