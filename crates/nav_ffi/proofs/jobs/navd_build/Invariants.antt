use Rattle.nav_ffi.proofs.jobs.navd_build.Given as goal

-- the counter of steps has the blank ledger
abbrev pub ghosts-build : goal.ghosts-build
ghosts-build a = record { name = a.blank.name; parts = a.blank.parts }
