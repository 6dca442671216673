use Rattle.tests_paths.proofs.renewals.renews_books.Given as goal

-- the call's ledger is the blank one that it is handed
abbrev pub ghosts-seen : goal.ghosts-seen
ghosts-seen a a' = record { name = a'.blank.name; parts = a'.blank.parts }
