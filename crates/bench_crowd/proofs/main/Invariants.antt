use Rattle.bench_crowd.proofs.main.Given as goal

-- the call's ledger is the blank one that it is handed
abbrev pub ghosts-walked : goal.ghosts-walked
ghosts-walked a = record { name = a.blank.name; parts = a.blank.parts }
