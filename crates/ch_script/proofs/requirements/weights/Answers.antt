use Rattle.std.proofs.Common.{rules, ◌≡◌, ◌≤◌, ◌+◌, ◌^◌, ◌++◌, [], ◌∷◌, unsigned_abs, length, length-append, ap, sym, subst, ◌∙◌, SFits, w64}
use Rattle.std.specs.List.{All}
use Rattle.ch_affine.specs.Affine.{IsAtMost}
use Rattle.ch_script.specs.Requirements.{weight_between}
use Rattle.ch_script.proofs.RequirementsFit.{weights_more}
use Rattle.ch_script.proofs.ValuesFit.{small_more}
use Rattle.ch_script.proofs.requirements.weights.Goals as goal

pub loop-k-preserved : goal.loop-k-preserved
loop-k-preserved c =
    let fits : SFits w64 c.weight_between-weight.result = search rules in
    let exact : c.weight_between-weight.result ≡ weight_between c.args.more.now c.args.less.now c.loop-k.k = search rules in
    let near : unsigned_abs c.weight_between-weight.result ≤ 2 ^ 60 = search rules in
    let pushed : c.push.new.self ≡ c.loop-k.weights ++ c.weight_between-weight.result ∷ [] = search rules in
    record {
      rest = weights_more (weight_between c.args.more.now c.args.less.now) c.args.params c.loop-k.k c.loop-k.weights c.push.new.self c.weight_between-weight.result _ c.loop-k-test.true exact pushed c.loop-k.invariant.rest;
      count = ap length pushed ∙ length-append c.loop-k.weights (c.weight_between-weight.result ∷ []) ∙ ap (λ n. n + 1) c.loop-k.invariant.count;
      small = subst (All (IsAtMost (2 ^ 60))) (sym pushed) (small_more c.loop-k.weights c.weight_between-weight.result c.loop-k.invariant.small near);
    }
