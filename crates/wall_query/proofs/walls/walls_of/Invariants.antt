use Rattle.wall_query.proofs.ListedWalls.{HasFirst}
use Rattle.wall_query.proofs.walls.walls_of.Given as goal

-- the walls of the polygons so far
abbrev pub invariant-loop-place : goal.invariant-loop-place
invariant-loop-place l = HasFirst l.mesh l.around l.list l.place l.walls.items
