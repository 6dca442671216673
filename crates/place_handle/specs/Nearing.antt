-- The nearest place over the border: which question is asked, and what is told of its answer.
use Rattle.std.specs.Prelude.{ℕ}
use Rattle.mesh_types.specs.declared.mesh.Mesh.{Mesh}
use Rattle.mesh_place.specs.declared.near.Near.{Near}
use Rattle.mesh_place.specs.declared.near.NearAnswer.{NearAnswer}
use Rattle.mesh_place.specs.declared.near.NearAnswer.TheVariants.{Nearest, NoneInReach}
use Rattle.mesh_place.specs.Nearest.{IsRightNear}
use Rattle.nav_handle.specs.Statuses as status
use Rattle.nav_handle.specs.Wire.{point_of}
use Rattle.place_handle.specs.declared.near.NavdNear.{NavdNear}
use Rattle.place_handle.specs.declared.places.NavdPlace.{NavdPlace}
use Rattle.place_handle.specs.Places.{place_told}
use Rattle.place_handle.specs.Statuses.{no_place}

-- the question: near which point and height, how far in the plane, down and up, and of which areas
abbrev pub near_asked : NavdNear → Near
near_asked near = record {
  point = point_of near.at;
  y = near.y;
  reach = near.reach;
  down = near.down;
  up = near.up;
  weight = near.weight;
  areas = near.areas;
}

-- its right answers in a mesh
abbrev pub IsNearestTo : Near → Mesh → NearAnswer → Type 0
IsNearestTo asked mesh answer = IsRightNear mesh asked answer

-- how it ends with an answer
abbrev pub near_ends : NearAnswer → ℕ
near_ends (Nearest place) = status.ok
near_ends NoneInReach = no_place

-- the nearest place is told; where none is in reach, the host's place stays as it is
abbrev pub told_near : NearAnswer → NavdPlace → NavdPlace
told_near (Nearest place) room = place_told place
told_near NoneInReach room = room
