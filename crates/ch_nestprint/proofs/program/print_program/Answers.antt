use Rattle.ch_nestprint.proofs.Printing.{reads, shows}
use Rattle.ch_nestprint.proofs.program.print_program.Goals as goal

pub returns-clause-tokens : goal.returns-clause-tokens
returns-clause-tokens c = shows c.args.name.now c.args.nest.now c.args.fills.now c.printed.result c.printed.ensures c.known.ensures

pub returns-clause-reads : goal.returns-clause-reads
returns-clause-reads c = reads c.args.name.now c.args.nest.now c.args.fills.now c.printed.result c.printed.ensures c.known.ensures
