use Rattle.ch_turn.proofs.turn.Turn.enter.Given as goal

abbrev pub ghosts-take : goal.ghosts-take
ghosts-take g a = record { kin = g.V.Listed.alike a.self.now.table.shared.key.first.value }
