-- The height at a place over the border: the right answers, and what is told of them.
use Rattle.std.specs.Prelude.{ℕ}
use Rattle.mesh_types.specs.declared.mesh.Mesh.{Mesh}
use Rattle.mesh_types.specs.declared.storeys.MeshPlace.{MeshPlace}
use Rattle.mesh_place.specs.declared.heights.HeightAnswer.{HeightAnswer}
use Rattle.mesh_place.specs.declared.heights.HeightAnswer.TheVariants.{Height, NoPlace}
use Rattle.mesh_place.specs.Heights.{IsRightHeight}
use Rattle.nav_handle.specs.Statuses as status
use Rattle.place_handle.specs.declared.places.NavdPlace.{NavdPlace}
use Rattle.place_handle.specs.Statuses.{no_place}

-- the right heights at the point of a place in its polygon, whatever the height of the place is
abbrev pub IsHeightAt : MeshPlace → Mesh → HeightAnswer → Type 0
IsHeightAt place mesh answer = IsRightHeight mesh place.polygon place.point answer

-- how the question ends with an answer
abbrev pub height_ends : HeightAnswer → ℕ
height_ends (Height y aside) = status.ok
height_ends NoPlace = no_place

-- the height is told as that of the host's place, which else stays as it is
abbrev pub told_height : HeightAnswer → NavdPlace → NavdPlace
told_height (Height y aside) room = record room { y = y }
told_height NoPlace room = room
