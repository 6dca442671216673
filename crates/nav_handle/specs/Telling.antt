-- What is told of an answer in the host's places: as far as there is room, and nothing where there is nothing to tell.
use Rattle.std.specs.Prelude.{ℕ, List, length, map}
use Rattle.mesh_types.specs.declared.answers.Answer.{Answer}
use Rattle.mesh_types.specs.declared.answers.Answer.TheVariants.{Floors, Path, NoStart, NoGoal, NoPath, Reached, Wall}
use Rattle.nav_handle.specs.Statuses as status
use Rattle.nav_handle.specs.declared.wire.NavdFloor.{NavdFloor}
use Rattle.nav_handle.specs.declared.wire.NavdLink.{NavdLink}
use Rattle.nav_handle.specs.declared.wire.NavdPath.{NavdPath}
use Rattle.nav_handle.specs.declared.wire.NavdRay.{NavdRay}
use Rattle.nav_handle.specs.declared.wire.NavdTurn.{NavdTurn}
use Rattle.nav_handle.specs.Wire.{laid, floor_told, link_told, path_told, point_told, polygon_told, turn_told}

-- how a question with an answer ends
abbrev pub answer_status : Answer → ℕ
answer_status (Floors floors) = status.ok
answer_status (Path found) = status.ok
answer_status NoStart = status.no_start
answer_status NoGoal = status.no_goal
answer_status NoPath = status.no_path
answer_status (Reached at) = status.ok
answer_status (Wall a b num den) = status.wall

-- the host's places for a path: one for its cost and counts, and room for its links and for its turns
abbrev pub PathRoom : Type 0
PathRoom = NavdPath × List NavdLink × List NavdTurn

-- a path is told with its links and turns as far as there is room; of another answer nothing is told
abbrev pub told_path : Answer → PathRoom → PathRoom
told_path (Path found) room = (path_told found, laid (map link_told found.links) room.1, laid (map turn_told found.turns) room.2)
told_path (Floors floors) room = room
told_path NoStart room = room
told_path NoGoal room = room
told_path NoPath room = room
told_path (Reached at) room = room
told_path (Wall a b num den) room = room

-- of a ray it is told in which polygon, or at which edge it ends
abbrev pub told_ray : Answer → NavdRay → NavdRay
told_ray (Reached at) ray = record ray { last = polygon_told at }
told_ray (Wall a b num den) ray = record ray { a = point_told a; b = point_told b; num = num; den = den }
told_ray (Floors floors) ray = ray
told_ray (Path found) ray = ray
told_ray NoStart ray = ray
told_ray NoGoal ray = ray
told_ray NoPath ray = ray

-- floors are told as far as there is room, with how many there are
abbrev pub told_floors : Answer → ℕ × List NavdFloor → ℕ × List NavdFloor
told_floors (Floors floors) room = (length floors, laid (map floor_told floors) room.1)
told_floors (Path found) room = room
told_floors NoStart room = room
told_floors NoGoal room = room
told_floors NoPath room = room
told_floors (Reached at) room = room
told_floors (Wall a b num den) room = room
