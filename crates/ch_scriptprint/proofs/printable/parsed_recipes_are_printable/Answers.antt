use Rattle.ch_scriptprint.proofs.RecipesWritten.{printable}
use Rattle.ch_scriptprint.proofs.printable.parsed_recipes_are_printable.Goals as goal

pub returns : goal.returns
returns c = printable
