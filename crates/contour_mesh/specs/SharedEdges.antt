-- SharedEdges: where two regions of a tile meet, the outlines of both have the same edges, the other way round.
use Rattle.std.specs.Prelude.{◌≡◌, ℕ, ◌<◌, List, length, get_or, slice_get, Some}
use Rattle.nav_base.specs.declared.point.Point.{Point}
use Rattle.nav_base.specs.Convex.{corner_at, place_after}
use Rattle.nav_ground.specs.declared.cell.FreeLayer.{FreeLayer}
use Rattle.nav_ground.specs.declared.setting.Setting.{Setting}
use Rattle.nav_ground.specs.Tiling.{tile_window}
use Rattle.mesh_types.specs.declared.region.RegionPart.{RegionPart}
use Rattle.mesh_types.specs.declared.region.Outline as outlines
use Rattle.mesh_types.specs.declared.region.Code.{Code}
use Rattle.mesh_types.specs.declared.region.Code.TheVariants.{Region}
use Rattle.mesh_types.specs.Parts.{parts_of}
use Rattle.mesh_types.specs.Words.{no_part}
use Rattle.mesh_types.specs.Regions.{regions_of}

-- an outline has an edge from one point to another with a code
pub record HasEdge (outline : outlines.Outline) (from to : Point) (code : Code) : Type 0 where
  pub place : ℕ
  pub there : place < length outline.corners
  pub begins : corner_at outline.corners place ≡ from
  pub ends : corner_at outline.corners (place_after (length outline.corners) place) ≡ to
  pub coded : slice_get outline.codes place ≡ Some code

-- where the outline of a region has an edge along another region, that region's outline has the edge the other way round, along the first
abbrev pub ShareEdges : List RegionPart → Type 0
ShareEdges parts =
    (p q : ℕ) (from to : Point) → p < length parts → q < length parts
    → HasEdge (get_or parts p no_part).outline from to (Region q) → HasEdge (get_or parts q no_part).outline to from (Region p)

-- the outlines of the regions of a tile's free cells do so
abbrev pub OutlinesShareEdges : Setting → FreeLayer → Type 0
OutlinesShareEdges setting free =
    (parts : List RegionPart) → parts_of (tile_window setting free.tile) setting.error free.cells (regions_of free.cells) ≡ Some parts → ShareEdges parts
