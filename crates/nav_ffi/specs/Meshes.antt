-- What a handle holds once a level was opened from the arrays of a mesh.
use Rattle.std.specs.Prelude.{◌≡◌, ◌⊎◌, ℕ, Option, Some}
use Rattle.build_queue.specs.BookState.{BookState, first_state}
use Rattle.nav_book.specs.Openings.{ground_of}
use Rattle.mesh_input.specs.Adding.{MeshLists}
use Rattle.mesh_handle.specs.declared.input.MeshEnd.{MeshEnd}
use Rattle.mesh_handle.specs.declared.input.MeshField.{MeshField}
use Rattle.mesh_handle.specs.declared.wire.NavdMesh.{NavdMesh}
use Rattle.mesh_handle.specs.declared.wire.NavdMeshFault.{NavdMeshFault}
use Rattle.mesh_handle.specs.Ends.{IsMeshEnd}
use Rattle.mesh_handle.specs.Meshes.{EndsMesh, IsFieldOfMesh}
use Rattle.nav_handle.specs.Statuses as status

-- the handle holds the first state of the level of a mesh
pub record HoldsMesh (mesh : NavdMesh) (lists : MeshLists) (held : Option BookState) : Type 0 where
  pub made : MeshField
  pub of_mesh : IsFieldOfMesh mesh lists made
  pub is : held ≡ Some (first_state (ground_of made.setting made.field))

-- all was done, and no fault is told
pub record IsMeshOpened (mesh : NavdMesh) (lists : MeshLists) (old new : Option BookState × NavdMeshFault) (end : ℕ) : Type 0 where
  pub ends : end ≡ status.ok
  pub holds : HoldsMesh mesh lists new.0
  pub told : new.1 ≡ old.1

-- there is no level of it, and the handle holds what it held; or memory was refused
pub record IsMeshRefused (mesh : NavdMesh) (lists : MeshLists) (old new : Option BookState × NavdMeshFault) (end : ℕ) : Type 0 where
  pub why : MeshEnd
  pub so : EndsMesh mesh lists why
  pub told : IsMeshEnd why old.1 new.1 end
  pub kept : new.0 ≡ old.0

abbrev pub IsMeshOpening : NavdMesh → MeshLists → Option BookState × NavdMeshFault → Option BookState × NavdMeshFault → ℕ → Type 0
IsMeshOpening mesh lists old new end = IsMeshOpened mesh lists old new end ⊎ IsMeshRefused mesh lists old new end
