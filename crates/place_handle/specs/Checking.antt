-- Whether a place is one of the mesh, over the border: the right answers, and how the question ends.
use Rattle.std.specs.Prelude.{ℕ, Bool, true, false, IsTrue, ◌↔◌}
use Rattle.mesh_types.specs.declared.mesh.Mesh.{Mesh}
use Rattle.mesh_types.specs.declared.storeys.MeshPlace.{MeshPlace}
use Rattle.mesh_types.specs.Places.{IsPlace}
use Rattle.nav_handle.specs.Statuses as status
use Rattle.place_handle.specs.declared.places.NavdPlace.{NavdPlace}
use Rattle.place_handle.specs.Statuses.{no_place}

-- the right answer in a mesh: yes exactly where the place is one
abbrev pub IsPlaceCheck : MeshPlace → Mesh → Bool → Type 0
IsPlaceCheck place mesh answer = IsTrue answer ↔ IsPlace mesh place

-- how the question ends with an answer
abbrev pub check_ends : Bool → ℕ
check_ends true = status.ok
check_ends false = no_place

-- nothing is told of the answer but how it ends
abbrev pub told_check : Bool → NavdPlace → NavdPlace
told_check answer room = room
