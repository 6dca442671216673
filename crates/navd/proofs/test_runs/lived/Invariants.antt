use Rattle.navd.proofs.test_runs.lived.Given as goal

-- the counter's ledger is the blank one
abbrev pub ghosts-run_counted : goal.ghosts-run_counted
ghosts-run_counted g a = record { name = a.blank.name; parts = a.blank.parts }
