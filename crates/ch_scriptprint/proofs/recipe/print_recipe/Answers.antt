use Rattle.ch_scriptprint.proofs.Printing.{reads}
use Rattle.ch_scriptprint.proofs.recipe.print_recipe.Goals as goal

pub returns-clause-reads : goal.returns-clause-reads
returns-clause-reads c = reads c.args.recipe.now c.printed.result c.printed.ensures c.known.ensures
