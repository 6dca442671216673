-- What the fields of a level keep at every moment.
use Rattle.std.specs.Prelude.{◌≡◌, List, length, Option}
use Rattle.nav_ground.specs.Tiling.{tile_count}
use Rattle.mesh_types.specs.declared.mesh.Mesh.{Mesh}
use Rattle.mesh_types.specs.declared.mesh.TileMesh.{TileMesh}
use Rattle.mesh_types.specs.Soundness.{IsSound}
use Rattle.build_queue.specs.BookState.{BookState, IsBook}
use Rattle.nav_book.specs.declared.level.Level.TheInside.{Inside}
use Rattle.nav_book.specs.Fresh.{AreStored}
use Rattle.nav_book.specs.LevelResults.{published_mesh}

-- what a level is seen as
abbrev pub state_of : Inside → BookState
state_of inside = inside.queue

-- the state keeps its rules, each tile has a place and a stored mesh, and the mesh is the published one, which is sound
pub record AreKept (state : BookState) (places : List (Option TileMesh)) (mesh : Mesh) : Type 0 where
  pub rules : IsBook state
  pub each : length places ≡ tile_count state.ground.setting
  pub stored : AreStored state.ground state.stored places mesh.tiles
  pub shown : mesh ≡ published_mesh state
  pub sound : IsSound mesh

-- and the builds that are remembered are of the state's ground
pub record IsKept (inside : Inside) : Type 0 where
  pub tiles : AreKept inside.queue inside.fresh inside.mesh
  pub builds : inside.builds ≡ inside.queue.ground
