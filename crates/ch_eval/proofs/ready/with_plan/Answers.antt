use Rattle.std.proofs.Common.{◌≡◌, ◌∙◌, ap, sym, arith, get_or, length, pos, replicate, rules, []}
use Rattle.std.proofs.lemmas.List.{length-replicate}
use Rattle.ch_nest.specs.CostModel.{CostModel}
use Rattle.ch_eval.proofs.ready.with_plan.Goals as goal

pub returns : goal.returns
returns c = λ extents root plan.
    let long : length c.in_ok-point.point.items ≡ c.args.needs.deep = ap length (c.in_ok-point.ensures.items_if_clones_equal (λ y h. search rules)) ∙ length-replicate c.args.needs.deep (pos 0) in
    record {
      needs = c.args.needs;
      plan = plan;
      serves = record {
        deep = omega (arith, long);
        vars = omega (arith, c.setting_of-setting.ensures.vars);
        rows = omega (arith, c.setting_of-setting.ensures.rows);
        places = λ k l. ap (λ ps. get_or ps k []) c.setting_of-setting.ensures.places;
      };
      machine = c.setting_of-setting.ensures.machine;
      walk = record {
        lines = c.setting_of-setting.ensures.lines;
        width = c.setting_of-setting.ensures.width;
        vars = c.in_ok-room.ensures.vars ∙ sym c.setting_of-setting.ensures.vars;
        rows = c.in_ok-room.ensures.rows ∙ sym c.setting_of-setting.ensures.rows;
        depth = c.in_ok-tally.ensures.last ∙ sym long;
      };
      slots = c.in_ok-tally.ensures.slots ∙ ap (λ (m : CostModel). replicate m.lines 0) c.machine.view_is;
      leaf = c.in_ok-tally.ensures.leaf ∙ c.len.ensures ∙ ap length (sym c.setting_of-setting.ensures.places);
      sum = c.in_ok-tally.ensures.sum;
    }
