-- Contours: the rim of a region, and the closed list of its edges.
use Rattle.std.specs.Prelude.{◌≡◌, ℕ, ◌+◌, ◌-◌, ◌%◌, ◌<◌, Bool, false, not, ◌==◌, ◌&&◌, if◌then◌else◌, List, [], map, filter, length, get_or, Option, option_and_then, unwrap_or, zero, suc, ◌∷◌}
use Rattle.std.specs.List.{find, flat_map, list_any, position, range_with_len}
use Rattle.std.specs.List.Sorted.{IsPermutation}
use Rattle.std.specs.Option.{option_map_or}
use Rattle.nav_base.specs.declared.point.Point.{Point}
use Rattle.nav_ground.specs.declared.cell.Cell.{Cell}
use Rattle.nav_ground.specs.declared.cell.CellRef.{CellRef}
use Rattle.nav_ground.specs.declared.cell.Window.{Window}
use Rattle.nav_ground.specs.Cells.{is_naming}
use Rattle.mesh_types.specs.declared.region.Strip.{Strip}
use Rattle.mesh_types.specs.declared.region.Region.{Region}
use Rattle.mesh_types.specs.declared.region.Regions.{Regions}
use Rattle.mesh_types.specs.declared.region.UnitEdge.{UnitEdge}
use Rattle.mesh_types.specs.declared.region.Code.{Code}
use Rattle.mesh_types.specs.declared.region.Code.TheVariants.{Wall, Side}
use Rattle.mesh_types.specs.declared.region.Code.TheVariants
use Rattle.mesh_types.specs.LinkOrder.{is_point_before}
use Rattle.mesh_types.specs.StripPolygons.{corner, some_cell}
use Rattle.mesh_types.specs.Crossings.{is_crossing}
use Rattle.mesh_types.specs.Regions.{is_holding, place_in}
use Rattle.mesh_types.specs.Rings.{IsClosed}
use Rattle.mesh_types.specs.Choices.{first_best}
use Rattle.mesh_types.specs.Ears.{is_same_point}

-- the cell at a place
abbrev pub is_at : CellRef → Cell → Bool
is_at at cell = cell.at.x == at.x && cell.at.z == at.z && cell.at.level == at.level

-- the cell at a place of a list
abbrev pub cell_in : List Cell → CellRef → Cell
cell_in cells at = unwrap_or (find (is_at at) cells) some_cell

-- the number of the region that holds the cell at a place
abbrev pub region_at : Regions → CellRef → Option ℕ
region_at regions at = position (λ (region : Region). list_any (is_holding at) region.strips) regions.regions

-- the number of the region of the free cell that a cell names in a direction
abbrev pub region_beyond : List Cell → Regions → ℕ → Cell → Option ℕ
region_beyond cells regions dir cell =
    option_and_then (λ (other : Cell). region_at regions other.at) (find (λ (other : Cell). is_naming dir cell other.at) cells)

-- the edge of a cell toward a direction is at the rim of a region unless the cell names a free cell of that region there
abbrev pub is_rim : List Cell → Regions → ℕ → ℕ → Cell → Bool
is_rim cells regions id dir cell = not (option_map_or (λ r. r == id) (region_beyond cells regions dir cell) false)

-- its code: the side of the tile where the cell named lies across it, the other region where the cell named is free, else a wall
abbrev pub code_beyond : Window → List Cell → Regions → ℕ → Cell → Code
code_beyond window cells regions dir cell =
    if is_crossing window dir cell then Side dir
    else option_map_or TheVariants.Region (region_beyond cells regions dir cell) Wall

-- the corner at which the edge of a cell toward a direction begins, with the cell on its left; it ends where the cell's next edge begins
abbrev pub edge_beginning : ℕ → CellRef → Point
edge_beginning dir at =
    if dir == 0 then corner at.x (at.z + 1)
    else (if dir == 1 then corner (at.x + 1) (at.z + 1)
    else (if dir == 2 then corner (at.x + 1) at.z
    else corner at.x at.z))

-- the corner at which such an edge ends
abbrev pub edge_ending : ℕ → CellRef → Point
edge_ending dir at = edge_beginning ((dir + 3) % 4) at

-- the edge of a cell toward a direction, with its code
abbrev pub edge_of : Window → List Cell → Regions → ℕ → CellRef → UnitEdge
edge_of window cells regions dir at = record {
  from = edge_beginning dir at;
  to = edge_ending dir at;
  code = code_beyond window cells regions dir (cell_in cells at);
}

-- the columns of a strip, and the places of the cells of a region, strip by strip
abbrev pub columns : Strip → List ℕ
columns strip = range_with_len strip.x0 (strip.x1 + 1 - strip.x0)

-- the strips of the region with a number
abbrev pub strips_in : Regions → ℕ → List Strip
strips_in regions id = (get_or regions.regions id (record { strips = [] })).strips

-- the places of the cells of the region with a number
abbrev pub places_in : Regions → ℕ → List CellRef
places_in regions id = flat_map (λ (strip : Strip). map (place_in strip) (columns strip)) (strips_in regions id)

-- the rim of a region: for each of its cells and each direction the edge, where it is at the rim
abbrev pub rim_edges_of : Window → List Cell → Regions → ℕ → CellRef → List UnitEdge
rim_edges_of window cells regions id at =
    map (λ dir. edge_of window cells regions dir at) (filter (λ dir. is_rim cells regions id dir (cell_in cells at)) (range_with_len 0 4))

-- all edges at the rim of a region, cell by cell
abbrev pub rim_of : Window → List Cell → Regions → ℕ → List UnitEdge
rim_of window cells regions id = flat_map (rim_edges_of window cells regions id) (places_in regions id)

-- a contour of a region, among the cells and the regions of a tile with these columns, is a closed list that holds each edge of the region's rim
-- once; no edge begins at a corner before that of the first
pub record IsContour (window : Window) (cells : List Cell) (regions : Regions) (id : ℕ) (edges : List UnitEdge) : Type 0 where
  pub rim : IsPermutation (rim_of window cells regions id) edges
  pub closed : IsClosed edges
  pub least : (k : ℕ) (d : UnitEdge) → k < length edges → is_point_before (get_or edges k d).from (get_or edges 0 d).from ≡ false

-- an edge of a rim, and one after the other the edges that begin where the one before ends, at most so many more
unfoldable pub walk_from : List UnitEdge → ℕ → UnitEdge → List UnitEdge
walk_from rim zero edge = edge ∷ []
walk_from rim (suc most) edge = edge ∷ option_map_or (walk_from rim most) (find (λ (next : UnitEdge). is_same_point next.from edge.to) rim) []

-- once round a rim, from the least corner
unfoldable pub once_round : List UnitEdge → List UnitEdge
once_round rim = option_map_or (walk_from rim (length rim - 1)) (first_best (λ (a b : UnitEdge). is_point_before a.from b.from) rim) []

-- the contour of a region
abbrev pub contour_of : Window → List Cell → Regions → ℕ → List UnitEdge
contour_of window cells regions id = once_round (rim_of window cells regions id)
