use Rattle.std.proofs.Common.{rules}
use Rattle.ch_turn.proofs.Turns.{tell_allowed}
use Rattle.ch_turn.proofs.turn.Turn.tell.Goals as goal

pub store-requires : goal.store-requires
store-requires g c = (search rules, search rules, tell_allowed _ _ _ _ _ g.V.Listed.news_grow _ _ _ _ _ _ _ c.requires.took.2 c.requires.took.3 c.requires.news)
