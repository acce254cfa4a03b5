use Rattle.ch_code.proofs.ReadUnit.{same_unit}
use Rattle.ch_code.proofs.print.texts_differ.Goals as goal

pub returns : goal.returns
returns c = same_unit
