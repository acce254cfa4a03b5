use Rattle.std.proofs.Common.{ap, sym, ◌∙◌}
use Rattle.ch_workload.specs.Sessions.{session_at}
use Rattle.ch_workload.proofs.SessionsRead.{session_name}
use Rattle.ch_workload.proofs.session.section.Goals as goal

pub returns-clause-name : goal.returns-clause-name
returns-clause-name c =
    session_name c.args.scope.now.bytes.now c.args.scope.now.programs.now c.args.scope.now.recipes.now c.args.tokens.now c.args.from _ c.in_ok-session.rest.now c.requires.cut
    (ap (session_at c.args.scope.now.bytes.now c.args.scope.now.programs.now c.args.scope.now.recipes.now) (sym c.split_at.ensures.back) ∙ c.in_ok-session.ensures.exact)
