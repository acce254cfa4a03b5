use Rattle.std.proofs.Common.{◌≡◌, ◌++◌, drop, length}
use Rattle.std.specs.List.{All}
use Rattle.ch_script.specs.Requirements.{all_requirements}
use Rattle.ch_script.proofs.requirements.requirements_of.Given as goal

abbrev pub invariant-loop-condition : goal.invariant-loop-condition
invariant-loop-condition l = record {
  rest : l.rows ++ all_requirements l.params (drop l.condition-index l.conditions) ≡ all_requirements l.params l.conditions;
  long : All (λ row. length row.coefs ≡ l.params) l.rows;
}
