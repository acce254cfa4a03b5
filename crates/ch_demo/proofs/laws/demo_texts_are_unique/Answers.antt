use Rattle.ch_demo.proofs.Unique.{same_text}
use Rattle.ch_demo.proofs.laws.demo_texts_are_unique.Goals as goal

pub returns : goal.returns
returns c = same_text
