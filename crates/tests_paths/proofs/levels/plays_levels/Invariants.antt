use Rattle.tests_paths.proofs.levels.plays_levels.Given as goal

-- each call's ledger is the blank one that it is handed
abbrev pub ghosts-wrong_in_play : goal.ghosts-wrong_in_play
ghosts-wrong_in_play a a' = record { name = a'.blank.name; parts = a'.blank.parts }
