use Rattle.tests_mesh.proofs.builds.builds_a_tile.Given as goal

-- the call's ledger is the blank one that it is handed
abbrev pub ghosts-counts : goal.ghosts-counts
ghosts-counts a a' = record { name = a'.blank.name; parts = a'.blank.parts }
