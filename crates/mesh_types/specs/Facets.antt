-- Facets: the polygons of a tile as pieces of the outlines of its regions.
use Rattle.std.specs.Prelude.{ℕ, false, ◌==◌, List, [], length, map, filter, get_or}
use Rattle.std.specs.Option.{option_map_or}
use Rattle.std.specs.List.{flat_map, range_with_len}
use Rattle.nav_base.specs.Convex.{corner_at}
use Rattle.nav_ground.specs.declared.cell.Cell.{Cell}
use Rattle.mesh_types.specs.declared.region.Regions.{Regions}
use Rattle.mesh_types.specs.declared.region.Outline as outlines
use Rattle.mesh_types.specs.declared.region.Piece.{Piece}
use Rattle.mesh_types.specs.declared.region.RegionPart.{RegionPart}
use Rattle.mesh_types.specs.declared.polygon.Polygon.{Polygon}
use Rattle.mesh_types.specs.StripPolygons.{first_of, low_of, high_of}
use Rattle.mesh_types.specs.Contours.{region_at}

-- a polygon as a piece of a region's outline: the region, its outline, and the places of the polygon's corners
pub record Facet : Type 0 where
  pub region : ℕ
  pub outline : outlines.Outline
  pub places : List ℕ

-- the facets: the pieces of region 0, then those of region 1, and so on
abbrev pub facets_in : RegionPart → ℕ → List Facet
facets_in part region = map (λ (piece : Piece). record { region = region; outline = part.outline; places = piece.corners }) part.pieces

-- the facets of all parts
unfoldable pub facets_of : List RegionPart → List Facet
facets_of parts =
    flat_map (λ region. facets_in (get_or parts region (record { outline = record { corners = []; codes = [] }; pieces = [] })) region)
    (range_with_len 0 (length parts))

-- the cells of a region
abbrev pub cells_of : List Cell → Regions → ℕ → List Cell
cells_of cells regions id = filter (λ (cell : Cell). option_map_or (λ r. r == id) (region_at regions cell.at) false) cells

-- the polygon of a facet, with the area of its region's cells, and the least and the greatest floor of them
abbrev pub facet_polygon : List Cell → Regions → Facet → Polygon
facet_polygon cells regions facet =
    let own = cells_of cells regions facet.region in
    record {
      corners = map (corner_at facet.outline.corners) facet.places;
      area = (first_of own).area;
      low = low_of own;
      high = high_of own;
    }
