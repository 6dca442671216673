-- Beginnings: what the search for the polygon in which a kept path begins has found of the polygons before a place of a tile.
use Rattle.std.specs.Prelude.{ℕ, ◌*◌, ◌/◌, ◌%◌, Option, Some, None}
use Rattle.nav_base.specs.declared.point.Point.{Point}
use Rattle.nav_ground.specs.declared.setting.Setting.{Setting}
use Rattle.nav_ground.specs.Tiling.{tiles_in_row}
use Rattle.mesh_types.specs.declared.links.PolyRef.{PolyRef}
use Rattle.mesh_types.specs.declared.mesh.Mesh.{Mesh}
use Rattle.mesh_types.specs.Located.{IsNoLater}
use Rattle.mesh_locate.specs.Nearest.{IsBefore}
use Rattle.mesh_locate.specs.Places.{Reaches}
use Rattle.kept_paths.specs.declared.checks.KeptPath.{KeptPath}
use Rattle.kept_paths.specs.KeptPaths.{Begins, gap_at}

-- a polygon in which a kept path may begin; of those before a place in which it may, none is nearer, or as near and earlier
pub record IsNearest (mesh : Mesh) (path : KeptPath) (tile index : ℕ) (at : PolyRef) : Type 0 where
  pub begins : Begins mesh path at
  pub before : IsBefore tile index at
  pub least : (other : PolyRef) → IsBefore tile index other → Begins mesh path other
      → IsNoLater (gap_at mesh path.from_y at) at (gap_at mesh path.from_y other) other

-- what was found among the polygons before a place; none where it may begin in none of them
abbrev pub IsNearestBefore : Mesh → KeptPath → ℕ → ℕ → Option PolyRef → Type 0
IsNearestBefore mesh path tile index None = (other : PolyRef) → IsBefore tile index other → Begins mesh path other → ⊥
IsNearestBefore mesh path tile index (Some at) = IsNearest mesh path tile index at

-- the closed square of a tile, in sixteenths, reaches a point
pub record IsReached (setting : Setting) (p : Point) (tile : ℕ) : Type 0 where
  pub across : Reaches (16 * setting.tile) (tile % tiles_in_row setting) p.x
  pub along : Reaches (16 * setting.tile) (tile / tiles_in_row setting) p.z
