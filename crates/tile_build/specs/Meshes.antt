-- The tile meshes of a ground.
use Rattle.std.specs.Prelude.{◌≡◌, false, List, map}
use Rattle.nav_ground.specs.declared.setting.Setting.{Setting}
use Rattle.nav_ground.specs.declared.cell.Layer.{Layer}
use Rattle.nav_ground.specs.declared.history.Ground.{Ground}
use Rattle.nav_ground.specs.declared.shape.Shape.{Shape}
use Rattle.nav_ground.specs.Layers.{layers_of}
use Rattle.mesh_types.specs.declared.mesh.TileMesh.{TileMesh}
use Rattle.mesh_types.specs.declared.mesh.Mesh.{Mesh}
use Rattle.mesh_types.specs.Builds.{tile_mesh_of}

-- the meshes of layers under obstacles, one by one
abbrev pub tiles_of : Setting → List Shape → List Layer → List TileMesh
tiles_of setting shapes layers = map (λ (layer : Layer). tile_mesh_of setting layer shapes) layers

-- the mesh of each tile of a ground under obstacles, in order
abbrev pub tiles_under : (ground : Ground) → List Shape → List TileMesh
tiles_under ground shapes = tiles_of ground.setting shapes ground.layers

-- the setting with which agents keep no radius from obstacles, and a ground with that setting
abbrev pub plain_setting : Setting → Setting
plain_setting setting = record setting { clear = false }

abbrev pub plain_ground : (ground : Ground) → Ground
plain_ground ground = record ground { setting = plain_setting ground.setting; layers = layers_of (plain_setting ground.setting) ground.field }

-- two meshes have the same tiles, so the same polygons and the same links within tiles, and the same links over the sides of tiles
pub record HasSameParts (mesh other : Mesh) : Type 0 where
  pub tiles : mesh.tiles ≡ other.tiles
  pub cross : mesh.cross ≡ other.cross
