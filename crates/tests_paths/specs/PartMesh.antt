-- PartMesh: a mesh of one tile, written out: two square cells side by side, and over them two thin triangles.
use Rattle.std.specs.Prelude.{ℕ, pos, List, [], ◌∷◌, replicate, false}
use Rattle.nav_base.specs.declared.point.Point.{Point}
use Rattle.nav_ground.specs.declared.setting.Setting.{Setting}
use Rattle.nav_ground.specs.declared.setting.MeshKind.TheVariants.{Strips}
use Rattle.mesh_types.specs.declared.mesh.Mesh.{Mesh}
use Rattle.mesh_types.specs.declared.polygon.Polygon.{Polygon}
use Rattle.mesh_types.specs.declared.mesh.TileMesh.{TileMesh}
use Rattle.mesh_types.specs.Storeys.{no_storeys}

-- 8 by 4 columns in one tile
abbrev pub one_tile : Setting
one_tile = record {
  width = 8;
  depth = 4;
  tile = 8;
  agent = record { height = 8; climb = 3; radius = 0 };
  error = 100;
  mesh = Strips;
  limit = 9;
  costs = replicate 64 1;
  clear = false;
}

abbrev pub point : ℕ → ℕ → Point
point x z = record { x = pos x; z = pos z }

-- a polygon at height 0
abbrev pub flat : List Point → Polygon
flat corners = record { corners = corners; area = 1; low = 0; high = 0 }

abbrev pub left_cell : List Point
left_cell = point 0 0 ∷ point 1 0 ∷ point 1 1 ∷ point 0 1 ∷ []

abbrev pub right_cell : List Point
right_cell = point 1 0 ∷ point 2 0 ∷ point 2 1 ∷ point 1 1 ∷ []

abbrev pub wedge : List Point
wedge = point 0 0 ∷ point 5 2 ∷ point 2 1 ∷ []

abbrev pub sliver : List Point
sliver = point 0 0 ∷ point 5 2 ∷ point 7 3 ∷ []

abbrev pub hand_tile : TileMesh
hand_tile = record {
  tile = 0;
  free = record { tile = 0; cells = [] };
  polys = flat left_cell ∷ flat right_cell ∷ flat wedge ∷ flat sliver ∷ [];
  links = [];
  rim = [];
  storeys = no_storeys;
}

abbrev pub hand_mesh : Mesh
hand_mesh = record { setting = one_tile; tiles = hand_tile ∷ []; cross = [] ∷ [] }
