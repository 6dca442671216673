-- The meshes that a level shows and takes in.
use Rattle.std.specs.Prelude.{ℕ, List, take, ⊤}
use Rattle.nav_ground.specs.declared.history.Entry.{Entry}
use Rattle.nav_ground.specs.declared.history.Ground.{Ground}
use Rattle.nav_ground.specs.declared.shape.Shape.{Shape}
use Rattle.nav_ground.specs.Layers.{layer_of}
use Rattle.mesh_types.specs.declared.mesh.Mesh.{Mesh}
use Rattle.mesh_types.specs.declared.mesh.TileMesh.{TileMesh}
use Rattle.mesh_types.specs.Builds.{build_of, tile_mesh_of}
use Rattle.build_queue.specs.declared.live.Published.{Published}
use Rattle.build_queue.specs.declared.live.Published.TheVariants.{New, Same, NotYet}
use Rattle.build_queue.specs.BookState.{BookState}

-- the mesh that is shown: that of the ground with the obstacles that are alive after the published entries
abbrev pub published_mesh : BookState → Mesh
published_mesh state = build_of state.ground state.history state.published

-- the mesh that is to be shown next: that with the obstacles that are alive at the target
abbrev pub target_mesh : BookState → Mesh
target_mesh state = build_of state.ground state.history state.target

-- the entries whose obstacles are shown: as many as are published, the oldest first
abbrev pub published_entries : BookState → List Entry
published_entries state = take state.published state.history

-- the mesh of a tile of a ground under a list of shapes
abbrev pub tile_under : (ground : Ground) → ℕ → List Shape → TileMesh
tile_under ground tile shapes = tile_mesh_of ground.setting (layer_of ground.setting ground.field tile) shapes

-- a publish shows what was not shown before
abbrev pub IsNew : Published → Type 0
IsNew (New k) = ⊤
IsNew (Same k) = ⊥
IsNew (NotYet tile) = ⊥
