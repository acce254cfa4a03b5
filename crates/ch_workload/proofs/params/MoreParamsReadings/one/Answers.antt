use Rattle.std.proofs.Common.{rules, ◌≡◌, ◌++◌, [], ◌∷◌, length, sym, ◌∙◌}
use Rattle.ch_workload.proofs.Faults.{params_more}
use Rattle.ch_workload.proofs.params.MoreParamsReadings.one.Goals as goal

pub returns-clause-keeps : goal.returns-clause-keeps
returns-clause-keeps c =
    let pushed : c.push.new.self ≡ c.args.params ++ c.in_ok-range.range ∷ [] = search rules in
    let count : c.len.result ≡ length c.args.params = search rules in
    params_more c.args.self.now.names.now c.args.params c.push.new.self c.len.result _ c.in_ok-range.range c.requires pushed count
    (sym c.is_named.ensures ∙ c.if-not-is_named.false) (sym c.in_ok-is_good.ensures ∙ c.if-not-branch.false)
