-- CorridorMesh: a mesh of two tiles of four columns a side, written out. Each tile is two triangles, and links lead from the upper triangle of the
-- left tile to its lower one, over the border to the lower triangle of the right tile, whose area costs 3, and on to the upper one.
use Rattle.std.specs.Prelude.{ℕ, [], ◌∷◌}
use Rattle.mesh_types.specs.declared.links.PolyRef.{PolyRef}
use Rattle.mesh_types.specs.declared.links.Link.{Link}
use Rattle.mesh_types.specs.declared.mesh.Mesh.{Mesh}
use Rattle.mesh_types.specs.declared.polygon.Polygon.{Polygon}
use Rattle.mesh_types.specs.declared.mesh.TileMesh.{TileMesh}
use Rattle.mesh_types.specs.Storeys.{no_storeys}
use Rattle.tests_mesh.specs.HandSettings.{costly_setting, point, triangle}

abbrev pub left_lower : Polygon
left_lower = triangle 1 0 0 (point 0 0) (point 4 0) (point 4 4)

abbrev pub left_upper : Polygon
left_upper = triangle 1 0 0 (point 0 0) (point 4 4) (point 0 4)

abbrev pub right_lower : Polygon
right_lower = triangle 2 0 0 (point 4 0) (point 8 0) (point 4 4)

abbrev pub right_upper : Polygon
right_upper = triangle 1 0 0 (point 8 0) (point 8 4) (point 4 4)

abbrev pub reference : ℕ → ℕ → PolyRef
reference tile index = record { tile = tile; index = index }

abbrev pub down_link : Link
down_link = record { from = reference 0 1; edge = 0; to = reference 0 0; portal = record { left = point 64 64; right = point 0 0 } }

abbrev pub border_link : Link
border_link = record { from = reference 0 0; edge = 1; to = reference 1 0; portal = record { left = point 64 64; right = point 64 0 } }

abbrev pub up_link : Link
up_link = record { from = reference 1 0; edge = 1; to = reference 1 1; portal = record { left = point 64 64; right = point 128 0 } }

-- a tile of two polygons with one link
abbrev pub hand_tile : ℕ → Polygon → Polygon → Link → TileMesh
hand_tile tile lower upper link = record {
  tile = tile;
  free = record { tile = tile; cells = [] };
  polys = lower ∷ upper ∷ [];
  links = link ∷ [];
  rim = [];
  storeys = no_storeys;
}

abbrev pub left_tile : TileMesh
left_tile = hand_tile 0 left_lower left_upper down_link

abbrev pub right_tile : TileMesh
right_tile = hand_tile 1 right_lower right_upper up_link

abbrev pub hand_mesh : Mesh
hand_mesh = record { setting = costly_setting; tiles = left_tile ∷ right_tile ∷ []; cross = (border_link ∷ []) ∷ [] ∷ [] }
