use Rattle.ch_turn.proofs.turn.Turn.split.Given as goal

abbrev pub ghosts-cut : goal.ghosts-cut
ghosts-cut g a = record { number = a._number; turns = a._turns }
