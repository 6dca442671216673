-- Builds: the mesh of a ground with the obstacles that a history leaves, from scratch.
use Rattle.std.specs.Prelude.{ℕ, List, map}
use Rattle.nav_ground.specs.declared.setting.Setting.{Setting}
use Rattle.nav_ground.specs.declared.cell.Layer.{Layer}
use Rattle.nav_ground.specs.declared.shape.Shape.{Shape}
use Rattle.nav_ground.specs.declared.history.Entry.{Entry}
use Rattle.nav_ground.specs.declared.history.Ground.{Ground}
use Rattle.nav_ground.specs.FreeCells.{free_layer_of}
use Rattle.nav_ground.specs.History.{shapes_alive}
use Rattle.mesh_types.specs.declared.mesh.TileMesh.{TileMesh}
use Rattle.mesh_types.specs.declared.mesh.Mesh.{Mesh}
use Rattle.mesh_types.specs.ContourMeshes.{mesh_of_free}
use Rattle.mesh_types.specs.WholeMesh.{mesh_of}

-- the mesh of a layer under obstacles
abbrev pub tile_mesh_of : Setting → Layer → List Shape → TileMesh
tile_mesh_of setting layer shapes = mesh_of_free setting (free_layer_of layer shapes)

-- the mesh of a ground under obstacles
abbrev pub mesh_under : (ground : Ground) → List Shape → Mesh
mesh_under ground shapes = mesh_of ground.setting (map (λ (layer : Layer). tile_mesh_of ground.setting layer shapes) ground.layers)

-- the mesh with the obstacles that are alive after the first k entries of a history
unfoldable pub build_of : (ground : Ground) → List Entry → ℕ → Mesh
build_of ground history k = mesh_under ground (shapes_alive history k)
