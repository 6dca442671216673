use Rattle.navd_scene.proofs.main.Given as goal

-- the counter's ledger is the blank one
abbrev pub ghosts-run : goal.ghosts-run
ghosts-run g a = record { name = a.blank.name; parts = a.blank.parts }
