use Rattle.nav_ffi.proofs.meshes.navd_open_mesh.Given as goal

-- the counter of steps has the blank ledger
abbrev pub ghosts-level_of : goal.ghosts-level_of
ghosts-level_of a = record { name = a.blank.name; parts = a.blank.parts }
