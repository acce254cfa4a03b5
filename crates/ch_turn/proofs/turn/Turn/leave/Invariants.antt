use Rattle.ch_turn.proofs.turn.Turn.leave.Given as goal

abbrev pub ghosts-give_back : goal.ghosts-give_back
ghosts-give_back g a = record { next = g.V.Listed.list a.value }
