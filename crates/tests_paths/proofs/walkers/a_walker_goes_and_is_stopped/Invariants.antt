use Rattle.tests_paths.proofs.walkers.a_walker_goes_and_is_stopped.Given as goal

-- each call's ledger is the blank one that it is handed
abbrev pub ghosts-opening : goal.ghosts-opening
ghosts-opening a a' = record { name = a'.blank.name; parts = a'.blank.parts }

abbrev pub ghosts-covering : goal.ghosts-covering
ghosts-covering a a' = record { name = a'.blank.name; parts = a'.blank.parts }
