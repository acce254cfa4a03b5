use Rattle.std.proofs.Common.{rules, ◌≡◌, ◌++◌, [], ◌∷◌, length, ap, sym, subst, ◌∙◌}
use Rattle.std.specs.List.{All}
use Rattle.std.proofs.lemmas.List.Elements.{All-push}
use Rattle.ch_affine.specs.Form.{Form}
use Rattle.ch_script.specs.Requirements.{requirement}
use Rattle.ch_script.proofs.RequirementsFit.{requirement_long, rows_more}
use Rattle.ch_script.proofs.requirements.requirements_of.Goals as goal

pub loop-condition-preserved : goal.loop-condition-preserved
loop-condition-preserved c =
    let pushed : c.push.new.self ≡ c.loop-condition.rows ++ c.in_ok-row.row ∷ [] = search rules in
    let row : c.in_ok-row.row ≡ requirement c.args.params c.condition-item.result = search rules in
    record {
      rest = rows_more c.args.params c.loop-condition.condition-index c.args.conditions.now c.condition-item.result c.loop-condition.rows c.push.new.self c.in_ok-row.row
          c.loop-condition-test.true c.condition-item.is row pushed c.loop-condition.invariant.rest;
      long = subst (All (λ (f : Form). length f.coefs ≡ c.args.params)) (sym pushed)
          (All-push (λ (f : Form). length f.coefs ≡ c.args.params) c.loop-condition.rows c.in_ok-row.row c.loop-condition.invariant.long
          (ap (λ (f : Form). length f.coefs) row ∙ requirement_long c.args.params c.condition-item.result));
    }
