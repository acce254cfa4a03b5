use Rattle.ch_nestprint.proofs.Printables.{printable}
use Rattle.ch_nestprint.proofs.printable.parsed_programs_are_printable.Goals as goal

pub returns : goal.returns
returns c = printable
