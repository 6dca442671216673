use Rattle.parallel_build.proofs.tile_meshes.built_one.Given as goal

-- the counter of steps has the blank ledger
abbrev pub ghosts-counted : goal.ghosts-counted
ghosts-counted a = record { name = a.blank.name; parts = a.blank.parts }
