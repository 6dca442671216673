use Rattle.registry_handle.proofs.updates.update_registry.Given as goal

-- the counter of steps has the blank ledger
abbrev pub ghosts-update : goal.ghosts-update
ghosts-update a = record { name = a.blank.name; parts = a.blank.parts }
