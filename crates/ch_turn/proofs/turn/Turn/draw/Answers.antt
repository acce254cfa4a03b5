use Rattle.std.proofs.Common.{rules}
use Rattle.ch_turn.proofs.Turns.{draw_allowed}
use Rattle.ch_turn.proofs.turn.Turn.draw.Goals as goal

pub fetch_add-requires : goal.fetch_add-requires
fetch_add-requires g c = (search rules, search rules, draw_allowed _ _ _ _ _ _ _ _ c.requires.idle.0 c.requires.idle.1 c.requires.idle.2)
