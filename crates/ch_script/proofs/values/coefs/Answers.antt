use Rattle.std.proofs.Common.{rules, ◌≡◌, ◌≤◌, ◌+◌, ◌^◌, ◌++◌, [], ◌∷◌, unsigned_abs, length, length-append, ap, sym, subst, ◌∙◌, SFits, w64}
use Rattle.std.specs.List.{All}
use Rattle.ch_affine.specs.Affine.{IsAtMost}
use Rattle.ch_script.specs.Values.{coef_between}
use Rattle.ch_script.proofs.ValuesFit.{coefs_more, small_more}
use Rattle.ch_script.proofs.values.coefs.Goals as goal

pub loop-l-preserved : goal.loop-l-preserved
loop-l-preserved c =
    let fits : SFits w64 c.coef_between-coef.result = search rules in
    let exact : c.coef_between-coef.result ≡ coef_between c.args.more.now c.args.less.now (c.loop-l.l + 1) = search rules in
    let near : unsigned_abs c.coef_between-coef.result ≤ 2 ^ 60 = search rules in
    let pushed : c.push.new.self ≡ c.loop-l.coefs ++ c.coef_between-coef.result ∷ [] = search rules in
    record {
      rest = coefs_more (coef_between c.args.more.now c.args.less.now) c.args.levels c.loop-l.l c.loop-l.coefs c.push.new.self c.coef_between-coef.result _ c.loop-l-test.true exact pushed c.loop-l.invariant.rest;
      count = ap length pushed ∙ length-append c.loop-l.coefs (c.coef_between-coef.result ∷ []) ∙ ap (λ n. n + 1) c.loop-l.invariant.count;
      small = subst (All (IsAtMost (2 ^ 60))) (sym pushed) (small_more c.loop-l.coefs c.coef_between-coef.result c.loop-l.invariant.small near);
    }
