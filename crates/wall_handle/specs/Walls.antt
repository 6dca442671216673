-- The nearest wall over the border: which question is asked, and what is told of its answer.
use Rattle.std.specs.Prelude.{ℕ}
use Rattle.mesh_types.specs.declared.mesh.Mesh.{Mesh}
use Rattle.nav_handle.specs.Statuses as status
use Rattle.nav_handle.specs.Wire.{point_told, polygon_told}
use Rattle.place_handle.specs.Places.{place_of}
use Rattle.place_handle.specs.Statuses.{no_place}
use Rattle.wall_handle.specs.declared.walls.NavdAround.{NavdAround}
use Rattle.wall_handle.specs.declared.walls.NavdWall.{NavdWall}
use Rattle.wall_query.specs.declared.questions.Wall.{Wall}
use Rattle.wall_query.specs.declared.questions.WallAnswer.{WallAnswer}
use Rattle.wall_query.specs.declared.questions.WallAnswer.TheVariants.{Nearest, NoWall, NoStart}
use Rattle.wall_query.specs.declared.questions.WallQuery.{WallQuery}
use Rattle.wall_query.specs.Walls.{IsRightWall}

-- a wall as C is told it
abbrev pub wall_told : Wall → NavdWall
wall_told wall = record {
  polygon = polygon_told wall.polygon;
  begin = point_told wall.begin;
  end = point_told wall.end;
  num = wall.far.num;
  den = wall.far.den;
  edge = wall.edge;
}

-- the question: around which place, within which reach, and into polygons of which areas
abbrev pub wall_asked : NavdAround → WallQuery
wall_asked around = record { from = place_of around.from; reach = around.reach; areas = around.areas }

-- its right answers in a mesh
abbrev pub IsWallBy : WallQuery → Mesh → WallAnswer → Type 0
IsWallBy asked mesh answer = IsRightWall mesh asked answer

-- how it ends with an answer
abbrev pub wall_ends : WallAnswer → ℕ
wall_ends (Nearest wall) = status.ok
wall_ends NoWall = no_place
wall_ends NoStart = status.no_start

-- the wall is told; where there is none, the host's stays as it is
abbrev pub told_wall : WallAnswer → NavdWall → NavdWall
told_wall (Nearest wall) room = wall_told wall
told_wall NoWall room = room
told_wall NoStart room = room
