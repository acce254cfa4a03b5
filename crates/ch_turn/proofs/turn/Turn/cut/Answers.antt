use Rattle.std.proofs.Common.{rules}
use Rattle.ch_turn.proofs.Seating.{split_allowed}
use Rattle.ch_turn.proofs.turn.Turn.cut.Goals as goal

pub split_seat-requires : goal.split_seat-requires
split_seat-requires g c = (search rules, search rules, split_allowed _ _ _ _ _ _ _ _ _ c.requires.idle.0 c.requires.idle.1 c.requires.idle.2)
