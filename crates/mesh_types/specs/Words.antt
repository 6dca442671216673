-- Words: short names for parts of definitions, for contracts of the crates above. Each is the same as the text that the definitions say in full.
use Rattle.std.specs.Prelude.{ℕ, ℤ, Bool, nat_lt, List, [], ◌∷◌, ◌++◌, map, filter, drop}
use Rattle.std.specs.List.{list_any, zip}
use Rattle.std.specs.Ordering.{is_eq}
use Rattle.nav_base.specs.declared.point.Point.{Point}
use Rattle.nav_base.specs.declared.point.FloorAt.{FloorAt}
use Rattle.nav_ground.specs.declared.cell.Cell.{Cell}
use Rattle.nav_ground.specs.declared.cell.FreeLayer.{FreeLayer}
use Rattle.mesh_types.specs.declared.region.Code.{Code}
use Rattle.mesh_types.specs.declared.region.UnitEdge.{UnitEdge}
use Rattle.mesh_types.specs.declared.region.Triangle.{Triangle}
use Rattle.mesh_types.specs.declared.region.Piece.{Piece}
use Rattle.mesh_types.specs.declared.region.RegionPart.{RegionPart}
use Rattle.mesh_types.specs.declared.polygon.Polygon.{Polygon}
use Rattle.mesh_types.specs.declared.mesh.TileMesh.{TileMesh}
use Rattle.mesh_types.specs.LinkOrder.{point_cmp}
use Rattle.mesh_types.specs.Rings.{beginnings}
use Rattle.mesh_types.specs.Ears.{width_at}
use Rattle.nav_ground.specs.CellColumns.{is_in_column}
use Rattle.mesh_types.specs.Rays.{side_of}

-- the corners, twice round
abbrev pub twice_round : List UnitEdge → List Point
twice_round edges = beginnings edges ++ beginnings edges

-- the runs: from each stop to the next
abbrev pub runs_between : List ℕ → List (ℕ × ℕ)
runs_between places = zip places (drop 1 places)

-- the codes of edges
abbrev pub codes_of : List UnitEdge → List Code
codes_of edges = map (λ (edge : UnitEdge). edge.code) edges

-- the corner is one of these
abbrev pub is_among : List Point → Point → Bool
is_among corners corner = list_any (λ other. is_eq (point_cmp other corner)) corners

-- a triangle as a piece
abbrev pub piece_of : Triangle → Piece
piece_of t = record { corners = t.a ∷ t.b ∷ t.c ∷ [] }

-- the part read past the end of a list
abbrev pub no_part : RegionPart
no_part = record { outline = record { corners = []; codes = [] }; pieces = [] }

-- the ear at the one position is narrower than at the other
abbrev pub is_narrower : List Point → List ℕ → ℕ → ℕ → Bool
is_narrower corners rest i j = nat_lt (width_at corners rest i) (width_at corners rest j)

-- the floor of a cell: its height and its area
abbrev pub floor_of : Cell → FloorAt
floor_of cell = record { y = cell.floor; area = cell.area }

-- the cells of a column, in the order of the list
abbrev pub column_of : ℕ → ℕ → List Cell → List Cell
column_of x z cells = filter (is_in_column x z) cells

-- the free cells of the tiles
abbrev pub free_of : List TileMesh → List FreeLayer
free_of tiles = map (λ (tile : TileMesh). tile.free) tiles

-- the numerator of an exit fraction
abbrev pub exit_num : Polygon → Point → ℕ → ℤ
exit_num polygon from edge = side_of polygon edge from
