use Rattle.bench_places.proofs.main.Given as goal

-- the call's ledger is the blank one that it is handed
abbrev pub ghosts-measured : goal.ghosts-measured
ghosts-measured a = record { name = a.blank.name; parts = a.blank.parts }
