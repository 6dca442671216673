use Rattle.tests_paths.proofs.books.hands_out_eyes.Given as goal

-- the call's ledger is the blank one that it is handed
abbrev pub ghosts-watched_anew : goal.ghosts-watched_anew
ghosts-watched_anew a a' = record { name = a'.blank.name; parts = a'.blank.parts }
