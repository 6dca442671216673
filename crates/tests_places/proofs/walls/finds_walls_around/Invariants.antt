use Rattle.tests_places.proofs.walls.finds_walls_around.Given as goal

-- each call's ledger is the blank one that it is handed
abbrev pub ghosts-wrong_walls : goal.ghosts-wrong_walls
ghosts-wrong_walls a a' = record { name = a'.blank.name; parts = a'.blank.parts }
