-- Parts: a region's outline and the pieces into which it is cut, one for each region.
use Rattle.std.specs.Prelude.{ℕ, if◌then◌else◌, List, length, Option, Some, None, is_some, Result, Ok, Err}
use Rattle.std.specs.List.{filter_map, list_all, range_with_len}
use Rattle.nav_ground.specs.declared.cell.Cell.{Cell}
use Rattle.nav_ground.specs.declared.cell.Window.{Window}
use Rattle.mesh_types.specs.declared.region.Regions.{Regions}
use Rattle.mesh_types.specs.declared.region.Outline as outlines
use Rattle.mesh_types.specs.declared.region.Triangle.{Triangle}
use Rattle.mesh_types.specs.declared.region.Simplified.{Simplified}
use Rattle.mesh_types.specs.declared.region.Simplified.TheVariants.{Flat, Outline}
use Rattle.mesh_types.specs.declared.region.RegionPart.{RegionPart}
use Rattle.mesh_types.specs.Simplified.{simplified_of}
use Rattle.mesh_types.specs.Ears.{ears_of}
use Rattle.mesh_types.specs.Merging.{merged}
use Rattle.mesh_types.specs.Contours.{contour_of}

-- an outline, and the pieces into which it is cut, where it can be cut into triangles
abbrev pub cut_part : outlines.Outline → Result (List Triangle) (List ℕ) → Option RegionPart
cut_part outline (Ok triangles) = Some (record { outline = outline; pieces = merged outline.corners triangles })
cut_part outline (Err left) = None

-- the part of a simplified contour, where that is not flat
abbrev pub part_of : Simplified → Option RegionPart
part_of Flat = None
part_of (Outline outline) = cut_part outline (ears_of outline.corners)

-- the numbers of the regions
abbrev pub region_numbers : Regions → List ℕ
region_numbers regions = range_with_len 0 (length regions.regions)

module _ (window : Window) (error : ℕ) (cells : List Cell) (regions : Regions) where
  -- the part of a region
  abbrev pub region_part : ℕ → Option RegionPart
  region_part id = part_of (simplified_of error (contour_of window cells regions id))

  -- the parts of all regions, where each has one: no contour is flat, and each outline can be cut
  unfoldable pub parts_of : Option (List RegionPart)
  parts_of =
      if list_all (λ id. is_some (region_part id)) (region_numbers regions) then Some (filter_map region_part (region_numbers regions)) else None
