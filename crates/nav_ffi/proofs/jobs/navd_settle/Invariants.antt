use Rattle.nav_ffi.proofs.jobs.navd_settle.Given as goal

-- the counter of steps has the blank ledger
abbrev pub ghosts-settle : goal.ghosts-settle
ghosts-settle a = record { name = a.blank.name; parts = a.blank.parts }
