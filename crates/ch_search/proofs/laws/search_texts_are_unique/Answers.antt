use Rattle.ch_search.proofs.Unique.{same_text}
use Rattle.ch_search.proofs.laws.search_texts_are_unique.Goals as goal

pub returns : goal.returns
returns c = same_text
