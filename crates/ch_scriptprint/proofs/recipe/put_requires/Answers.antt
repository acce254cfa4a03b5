use Rattle.std.proofs.Common.{rules, ◌≡◌, ◌++◌}
use Rattle.ch_scriptprint.specs.Printed.{require_line}
use Rattle.ch_scriptprint.proofs.Lines.{one_more}
use Rattle.ch_scriptprint.proofs.recipe.put_requires.Goals as goal

pub loop-condition-preserved : goal.loop-condition-preserved
loop-condition-preserved c =
    let said : c.put_require.new.out ≡ c.loop-condition.out ++ require_line c.args.params.now c.condition-item.result = search rules in
    one_more (require_line c.args.params.now) c.args.conditions.now c.loop-condition.condition-index c.condition-item.result c.args.out.now c.loop-condition.out c.put_require.new.out
    c.loop-condition-test.true c.loop-condition.invariant c.condition-item.is said
