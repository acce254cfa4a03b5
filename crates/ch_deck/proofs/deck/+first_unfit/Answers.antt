use Rattle.ch_deck.proofs.Judging.{all_first}
use Rattle.ch_deck.proofs.deck.+first_unfit.Goals as goal

pub returns-in-None-clause-sound : goal.returns-in-None-clause-sound
returns-in-None-clause-sound t c =
    all_first c.args.programs.now c.first-item.result c.first_unfit.result c.in-len1-up.len_at_least c.first-item.is (c.in_ok-refusal-in-len1-up-places.ensures.sound c.in-None.is) c.first_unfit.ensures.sound
