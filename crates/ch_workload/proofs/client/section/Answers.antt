use Rattle.std.proofs.Common.{ap, sym, ◌∙◌}
use Rattle.ch_workload.specs.Clients.{client_at}
use Rattle.ch_workload.proofs.ClientsRead.{client_fit, client_name}
use Rattle.ch_workload.proofs.client.section.Goals as goal

pub returns-clause-fits : goal.returns-clause-fits
returns-clause-fits c =
    client_fit c.args.scope.now.bytes.now c.args.scope.now.programs.now c.args.scope.now.sessions.now c.args.tokens.now c.args.from _ c.in_ok-client.rest.now c.requires.cut
    (ap (client_at c.args.scope.now.bytes.now c.args.scope.now.programs.now c.args.scope.now.sessions.now) (sym c.split_at.ensures.back) ∙ c.in_ok-client.ensures)

pub returns-clause-name : goal.returns-clause-name
returns-clause-name c =
    client_name c.args.scope.now.bytes.now c.args.scope.now.programs.now c.args.scope.now.sessions.now c.args.tokens.now c.args.from _ c.in_ok-client.rest.now c.requires.cut
    (ap (client_at c.args.scope.now.bytes.now c.args.scope.now.programs.now c.args.scope.now.sessions.now) (sym c.split_at.ensures.back) ∙ c.in_ok-client.ensures)
