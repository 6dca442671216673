use Rattle.tests_ways.proofs.back.plans_to_one_goal.Given as goal

-- each call's ledger is the blank one that it is handed
abbrev pub ghosts-wrong_batch : goal.ghosts-wrong_batch
ghosts-wrong_batch a a' = record { name = a'.blank.name; parts = a'.blank.parts }
