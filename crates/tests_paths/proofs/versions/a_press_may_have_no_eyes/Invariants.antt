use Rattle.tests_paths.proofs.versions.a_press_may_have_no_eyes.Given as goal

-- the call's ledger is the blank one that it is handed
abbrev pub ghosts-opening : goal.ghosts-opening
ghosts-opening a a' = record { name = a'.blank.name; parts = a'.blank.parts }
