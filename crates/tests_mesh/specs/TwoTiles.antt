-- TwoTiles: two tiles of four columns a side, written out. The left one has a polygon along its right side, the right one two polygons above
-- each other along its left side.
use Rattle.std.specs.Prelude.{ℕ, ◌+◌, List, [], ◌∷◌}
use Rattle.mesh_types.specs.declared.polygon.Polygon.{Polygon}
use Rattle.mesh_types.specs.declared.mesh.LevelPair.{LevelPair}
use Rattle.mesh_types.specs.declared.mesh.RimEdge.{RimEdge}
use Rattle.mesh_types.specs.declared.mesh.TileMesh.{TileMesh}
use Rattle.mesh_types.specs.Storeys.{no_storeys}
use Rattle.tests_mesh.specs.HandSettings.{point}

-- the rectangle of two columns and four rows from a column on
abbrev pub hand_polygon : ℕ → Polygon
hand_polygon x = record {
  corners = point x 0 ∷ point (x + 2) 0 ∷ point (x + 2) 4 ∷ point x 4 ∷ [];
  area = 1;
  low = 0;
  high = 0;
}

abbrev pub levels : ℕ → ℕ → LevelPair
levels own other = record { own = own; other = other }

-- a tile without inner links
abbrev pub hand_tile : ℕ → List Polygon → List RimEdge → TileMesh
hand_tile tile polys rim = record { tile = tile; free = record { tile = tile; cells = [] }; polys = polys; links = []; rim = rim; storeys = no_storeys }

-- along the border the left tile leads to level 0, twice to level 1, and to level 0 again
abbrev pub left_entry : RimEdge
left_entry = record { poly = 0; edge = 1; side = 2; first = 0; pairs = levels 0 0 ∷ levels 0 1 ∷ levels 0 1 ∷ levels 0 0 ∷ [] }

abbrev pub left_tile : TileMesh
left_tile = hand_tile 0 (hand_polygon 2 ∷ []) (left_entry ∷ [])

-- the lower polygon of the right tile leads to it at the first and the last position, the upper one at the two between
abbrev pub lower_entry : RimEdge
lower_entry = record { poly = 0; edge = 3; side = 0; first = 0; pairs = levels 0 0 ∷ levels 0 5 ∷ levels 0 5 ∷ levels 0 0 ∷ [] }

abbrev pub upper_entry : RimEdge
upper_entry = record { poly = 1; edge = 3; side = 0; first = 1; pairs = levels 1 0 ∷ levels 1 0 ∷ [] }

abbrev pub right_tile : TileMesh
right_tile = hand_tile 1 (hand_polygon 4 ∷ hand_polygon 4 ∷ []) (lower_entry ∷ upper_entry ∷ [])
