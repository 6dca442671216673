-- UncutOutlines: that a tile of contours at a fine error is made of strips only where an outline cannot be cut into triangles.
use Rattle.std.specs.Prelude.{◌≡◌, ◌⊎◌, ℕ, ◌<◌, List, length, All, Err}
use Rattle.nav_ground.specs.declared.cell.FreeLayer.{FreeLayer}
use Rattle.nav_ground.specs.declared.history.Ground.{Ground}
use Rattle.nav_ground.specs.declared.setting.MeshKind.TheVariants.{Contours}
use Rattle.nav_ground.specs.declared.setting.Setting.{Setting}
use Rattle.nav_ground.specs.declared.shape.Shape.{Shape}
use Rattle.nav_ground.specs.Grounds.{IsGround}
use Rattle.nav_ground.specs.Limits.{IsShape}
use Rattle.nav_ground.specs.Tiling.{tile_window}
use Rattle.mesh_types.specs.declared.mesh.TileMesh.{TileMesh}
use Rattle.mesh_types.specs.declared.region.Outline as outlines
use Rattle.mesh_types.specs.declared.region.Simplified.TheVariants.{Outline}
use Rattle.mesh_types.specs.Builds.{mesh_under}
use Rattle.mesh_types.specs.Contours.{contour_of}
use Rattle.mesh_types.specs.Ears.{ears_of}
use Rattle.mesh_types.specs.Regions.{regions_of}
use Rattle.mesh_types.specs.Simplified.{simplified_of}
use Rattle.contour_mesh.specs.Linked.{IsOfOutlines}
use Rattle.outline_laws.specs.UnitRings.{IsFine}

-- a region of a tile has an outline, and corners of it are left of which none can be cut off as a triangle
pub record HasUncutOutline (setting : Setting) (free : FreeLayer) : Type 0 where
  pub region : ℕ
  pub inside : region < length (regions_of free.cells).regions
  pub outline : outlines.Outline
  pub simplified : simplified_of setting.error (contour_of (tile_window setting free.tile) free.cells (regions_of free.cells) region) ≡ Outline outline
  pub left : List ℕ
  pub uncut : ears_of outline.corners ≡ Err left

-- a tile is built by the outlines of its regions, or one of these cannot be cut
abbrev pub IsOfOutlinesIfCut : Setting → TileMesh → Type 0
IsOfOutlinesIfCut setting tile = IsOfOutlines setting tile ⊎ HasUncutOutline setting tile.free

-- each tile of every built mesh is, where its setting asks for contours at a fine error
abbrev pub TilesAreOfOutlinesIfCut : Type 0
TilesAreOfOutlinesIfCut = (ground : Ground) (shapes : List Shape) → IsGround ground → All IsShape shapes
    → ground.setting.mesh ≡ Contours → IsFine ground.setting.error → All (IsOfOutlinesIfCut ground.setting) (mesh_under ground shapes).tiles
