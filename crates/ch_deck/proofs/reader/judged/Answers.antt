use Rattle.std.proofs.Common.{subst}
use Rattle.std.specs.List.{All}
use Rattle.ch_deck.specs.Judged.{IsSound}
use Rattle.ch_deck.proofs.Judging.{deck_kept}
use Rattle.ch_deck.proofs.reader.judged.Goals as goal

pub of-requires : goal.of-requires
of-requires c =
    deck_kept c.args.found c.in_ok-programs-in-None.programs c.requires.fine
    (subst (All IsSound) c.as_slice.ensures (c.in_ok-refusal.ensures.sound c.in-None.is)) c.in_ok-programs-in-None.ensures
