use Rattle.std.proofs.Common.{rules}
use Rattle.ch_turn.proofs.Reading.{read_allowed}
use Rattle.ch_turn.proofs.turn.Turn.news.Goals as goal

pub load-requires : goal.load-requires
load-requires g c = (search rules, search rules, read_allowed _ _ _ _ _ _ _ _)
