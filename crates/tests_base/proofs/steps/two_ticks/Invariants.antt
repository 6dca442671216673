use Rattle.tests_base.proofs.steps.two_ticks.Given as goal

-- the call's ledger is the blank one that it is handed
abbrev pub ghosts-tick_from : goal.ghosts-tick_from
ghosts-tick_from a = record { name = a.blank.name; parts = a.blank.parts }
