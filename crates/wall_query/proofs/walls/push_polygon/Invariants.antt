use Rattle.wall_query.specs.Walls.{AddsWalls}
use Rattle.wall_query.proofs.WallLaws.{IsOnEarlier}
use Rattle.wall_query.proofs.walls.push_polygon.Given as goal

-- the walls of the edges so far were appended
abbrev pub invariant-loop-edge : goal.invariant-loop-edge
invariant-loop-edge l = AddsWalls l.mesh l.around (IsOnEarlier l.at l.edge) l.initial.walls.items l.walls.items
