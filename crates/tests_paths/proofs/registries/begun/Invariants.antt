use Rattle.tests_paths.proofs.registries.begun.Given as goal

-- the call's ledger is the blank one that it is handed
abbrev pub ghosts-opened : goal.ghosts-opened
ghosts-opened g a = record { name = a.blank.name; parts = a.blank.parts }
