-- Built: what holds of every built mesh.
use Rattle.std.specs.Prelude.{List, All}
use Rattle.nav_ground.specs.declared.history.Ground.{Ground}
use Rattle.nav_ground.specs.declared.setting.Setting.{Setting}
use Rattle.nav_ground.specs.declared.shape.Shape.{Shape}
use Rattle.nav_ground.specs.Grounds.{IsGround}
use Rattle.nav_ground.specs.Limits.{IsShape}
use Rattle.mesh_types.specs.declared.mesh.Mesh.{Mesh}
use Rattle.mesh_types.specs.declared.mesh.TileMesh.{TileMesh}
use Rattle.mesh_types.specs.Builds.{mesh_under}

-- something holds of the mesh of every ground under every list of obstacles. The mesh of a history is such a mesh
abbrev pub HoldsOfMeshes : (Mesh → Type 0) → Type 0
HoldsOfMeshes P = (ground : Ground) (shapes : List Shape) → IsGround ground → All IsShape shapes → P (mesh_under ground shapes)

-- something holds of each tile of every such mesh, by the setting
abbrev pub HoldsOfTiles : (Setting → TileMesh → Type 0) → Type 0
HoldsOfTiles P = HoldsOfMeshes (λ (mesh : Mesh). All (P mesh.setting) mesh.tiles)
