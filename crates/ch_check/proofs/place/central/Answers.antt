use Rattle.std.proofs.Common.{◌≡◌, ◌∙◌, ◌^◌, ap, length}
use Rattle.std.specs.List.{All}
use Rattle.std.proofs.lemmas.Result.{IfOk-weaker}
use Rattle.ch_affine.specs.Affine.{IsAtMost}
use Rattle.ch_constrain.specs.Nearest.{values}
use Rattle.ch_check.proofs.Values.{central_long, central_small}
use Rattle.ch_check.proofs.place.central.Goals as goal

pub returns-clause-long : goal.returns-clause-long
returns-clause-long c =
    let params = c.args.grid.now.params in
    let point = c.as_slice.result.now in
    IfOk-weaker c.values_at.result (λ v. v ≡ values params point) (λ v. length v ≡ length params)
    (λ v e. central_long params v (e ∙ ap (values params) (c.as_slice.ensures ∙ c.in_ok-point.ensures.exact))) c.values_at.ensures.exact

pub returns-clause-small : goal.returns-clause-small
returns-clause-small c =
    let params = c.args.grid.now.params in
    let point = c.as_slice.result.now in
    IfOk-weaker c.values_at.result (λ v. v ≡ values params point) (λ v. All (IsAtMost (2 ^ 20)) v)
    (λ v e. central_small params v c.args.grid.now.within (e ∙ ap (values params) (c.as_slice.ensures ∙ c.in_ok-point.ensures.exact))) c.values_at.ensures.exact
