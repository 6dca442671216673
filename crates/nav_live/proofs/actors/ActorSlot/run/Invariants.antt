use Rattle.nav_live.proofs.actors.ActorSlot.run.Given as goal

-- the counter's name and parts are those of its blank
abbrev pub ghosts-run : goal.ghosts-run
ghosts-run g a = record { name = a.blank.name; parts = a.blank.parts }
