-- Footings: what the cells of a region give its polygons.
use Rattle.std.specs.Prelude.{◌≡◌, ℕ, min, max, List, length, map, fold, get_or, Option, None, Some, unwrap_or}
use Rattle.nav_base.specs.declared.point.Point.{Point}
use Rattle.nav_base.specs.Convex.{corner_at}
use Rattle.nav_ground.specs.declared.cell.Cell.{Cell}
use Rattle.mesh_types.specs.declared.region.Regions.{Regions}
use Rattle.mesh_types.specs.declared.polygon.Polygon.{Polygon}
use Rattle.mesh_types.specs.Facets.{Facet, cells_of}
use Rattle.contour_mesh.specs.declared.parts.RegionFloors.{RegionFloors}

-- the footing of the cells so far, if there were any, with one cell more
abbrev pub footing_with : Option RegionFloors → Cell → RegionFloors
footing_with None cell = record { area = cell.area; low = cell.floor; high = cell.floor }
footing_with (Some seen) cell = record { area = seen.area; low = min seen.low cell.floor; high = max seen.high cell.floor }

-- the footing of cells, if there are any: the area of the first, the least and the greatest floor
abbrev pub footing_of : List Cell → Option RegionFloors
footing_of own = fold (λ seen (cell : Cell). Some (footing_with seen cell)) None own

-- the footing read where a region has no cell
abbrev pub no_footing : RegionFloors
no_footing = record { area = 0; low = 0; high = 0 }

-- for each region the footing of its cells
pub record AreFootings (cells : List Cell) (regions : Regions) (footings : List (Option RegionFloors)) : Type 0 where
  pub many : length footings ≡ length regions.regions
  pub each : (id : ℕ) → get_or footings id None ≡ footing_of (cells_of cells regions id)

-- the polygon with these places of an outline as its corners, over a footing
abbrev pub polygon_over : List Point → RegionFloors → List ℕ → Polygon
polygon_over outline footing places = record {
  corners = map (corner_at outline) places;
  area = footing.area;
  low = footing.low;
  high = footing.high;
}

-- the footing of a region, and the polygon of a facet over that of its region
abbrev pub footing_at : List (Option RegionFloors) → ℕ → RegionFloors
footing_at footings region = unwrap_or (get_or footings region None) no_footing

abbrev pub facet_over_footing : List (Option RegionFloors) → Facet → Polygon
facet_over_footing footings facet = polygon_over facet.outline.corners (footing_at footings facet.region) facet.places
