-- The walls around a place over the border: which question is asked, and what is told of its answer.
use Rattle.std.specs.Prelude.{ℕ, List, length, map}
use Rattle.mesh_types.specs.declared.mesh.Mesh.{Mesh}
use Rattle.nav_handle.specs.Statuses as status
use Rattle.nav_handle.specs.Wire.{laid}
use Rattle.place_handle.specs.Places.{place_of}
use Rattle.wall_handle.specs.declared.walls.NavdAround.{NavdAround}
use Rattle.wall_handle.specs.declared.walls.NavdWall.{NavdWall}
use Rattle.wall_handle.specs.Walls.{wall_told}
use Rattle.wall_query.specs.declared.questions.WallsAnswer.{WallsAnswer}
use Rattle.wall_query.specs.declared.questions.WallsAnswer.TheVariants.{Walls, NoStart}
use Rattle.wall_query.specs.declared.questions.WallsQuery.{WallsQuery}
use Rattle.wall_query.specs.AllWalls.{IsRightWalls}

-- the question: around which place, within which reach, and into polygons of which areas
abbrev pub walls_asked : NavdAround → WallsQuery
walls_asked around = record { from = place_of around.from; reach = around.reach; areas = around.areas }

-- its right answers in a mesh
abbrev pub AreWallsBy : WallsQuery → Mesh → WallsAnswer → Type 0
AreWallsBy asked mesh answer = IsRightWalls mesh asked answer

-- how it ends with an answer
abbrev pub walls_ends : WallsAnswer → ℕ
walls_ends (Walls walls) = status.ok
walls_ends NoStart = status.no_start

-- the host's places: for the count, and room for the walls
abbrev pub WallsRoom : Type 0
WallsRoom = ℕ × List NavdWall

-- the walls are told as far as there is room, with how many they are; where there is no start, nothing is told
abbrev pub told_walls : WallsAnswer → WallsRoom → WallsRoom
told_walls (Walls walls) room = (length walls, laid (map wall_told walls) room.1)
told_walls NoStart room = room
