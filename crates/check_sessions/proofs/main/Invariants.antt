use Rattle.check_sessions.proofs.main.Given as goal

abbrev pub ghosts-obey : goal.ghosts-obey
ghosts-obey a = record { name = a.blank.name; parts = 1 }
