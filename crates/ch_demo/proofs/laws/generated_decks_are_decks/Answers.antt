use Rattle.ch_demo.proofs.Decks.{is_deck}
use Rattle.ch_demo.proofs.laws.generated_decks_are_decks.Goals as goal

pub returns : goal.returns
returns c = is_deck
