use Rattle.tests_crowd.proofs.leads.leads_agents.Given as goal

-- each call's ledger is the blank one that it is handed
abbrev pub ghosts-wrong : goal.ghosts-wrong
ghosts-wrong a a' = record { name = a'.blank.name; parts = a'.blank.parts }
