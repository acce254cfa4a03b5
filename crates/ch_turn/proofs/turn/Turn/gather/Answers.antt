use Rattle.std.proofs.Common.{rules}
use Rattle.ch_turn.proofs.Seating.{join_allowed, settle_allowed}
use Rattle.ch_turn.proofs.turn.Turn.gather.Goals as goal

pub join_seat-requires : goal.join_seat-requires
join_seat-requires g c = (search rules, search rules, search rules, search rules, join_allowed _ _ _ _ _ _ _ _ _ c.requires.idle.0 c.requires.idle.1)

pub load-requires : goal.load-requires
load-requires g c = (search rules, search rules, settle_allowed _ _ _ _ _ _ _ _)
