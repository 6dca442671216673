-- PlaceMesh: a mesh of two tiles of four columns a side, written out. Two equal triangles stand above each other in the left tile, and one in the
-- right tile beside them.
use Rattle.std.specs.Prelude.{ℕ, ◌+◌, List, [], ◌∷◌}
use Rattle.mesh_types.specs.declared.mesh.Mesh.{Mesh}
use Rattle.mesh_types.specs.declared.polygon.Polygon.{Polygon}
use Rattle.mesh_types.specs.declared.mesh.TileMesh.{TileMesh}
use Rattle.mesh_types.specs.Storeys.{no_storeys}
use Rattle.tests_mesh.specs.HandSettings.{plain_setting, point, triangle}

-- the triangle on four cells of the lowest row from a column on, that reaches four cells up at another column
abbrev pub hand_polygon : ℕ → ℕ → ℕ → Polygon
hand_polygon x top low = triangle 1 low (low + 2) (point x 0) (point (x + 4) 0) (point top 4)

-- a tile of polygons without links
abbrev pub hand_tile : ℕ → List Polygon → TileMesh
hand_tile tile polys = record { tile = tile; free = record { tile = tile; cells = [] }; polys = polys; links = []; rim = []; storeys = no_storeys }

abbrev pub left_tile : TileMesh
left_tile = hand_tile 0 (hand_polygon 0 4 0 ∷ hand_polygon 0 4 4 ∷ [])

abbrev pub right_tile : TileMesh
right_tile = hand_tile 1 (hand_polygon 4 4 0 ∷ [])

abbrev pub hand_mesh : Mesh
hand_mesh = record { setting = plain_setting; tiles = left_tile ∷ right_tile ∷ []; cross = [] ∷ [] ∷ [] }
