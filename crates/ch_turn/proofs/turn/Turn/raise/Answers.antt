use Rattle.std.proofs.Common.{rules}
use Rattle.ch_turn.proofs.Turns.{raise_allowed}
use Rattle.ch_turn.proofs.turn.Turn.raise.Goals as goal

pub fetch_add-requires : goal.fetch_add-requires
fetch_add-requires g c = let told = c.requires.told in let back = c.requires.back in
    (search rules, search rules, raise_allowed _ _ _ _ _ _ _ _ _ _ _ back.0 told.2 back.1 back.2 back.3)
