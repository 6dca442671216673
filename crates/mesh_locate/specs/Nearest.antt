-- Nearest: what a search has found of the polygons before a place of a tile.
use Rattle.std.specs.Prelude.{◌≡◌, ℕ, ◌%◌, ◌<◌, ◌≤◌, ◌⊎◌, ◌≤ℤ◌, Bool, true, nat_lt, Option, Some, None}
use Rattle.nav_base.specs.declared.point.Point.{Point}
use Rattle.nav_ground.specs.Tiling.{tiles_in_row}
use Rattle.mesh_types.specs.declared.links.PolyRef.{PolyRef}
use Rattle.mesh_types.specs.declared.extent.Extent.{Extent}
use Rattle.mesh_types.specs.declared.mesh.Mesh.{Mesh}
use Rattle.mesh_types.specs.BorderLinks.{scaled}
use Rattle.mesh_types.specs.Located.{HoldsAt, IsNoLater, height_gap}
use Rattle.mesh_locate.specs.declared.nearest.NearestPolygon.{NearestPolygon}
use Rattle.mesh_locate.specs.declared.nearest.AxisTiles.{AxisTiles}
use Rattle.mesh_locate.specs.Places.{IsOneOf}

-- a polygon comes before a place of a tile: it stands in an earlier tile, or in that tile at an earlier place
abbrev pub IsBefore : ℕ → ℕ → PolyRef → Type 0
IsBefore tile index at = (at.tile < tile) ⊎ ((at.tile ≡ tile) × (at.index < index))

-- a polygon that holds the point at the height, with its gap; of those before a place that hold it none is nearer, or as near and earlier
pub record IsNearest (mesh : Mesh) (p : Point) (y tile index : ℕ) (near : NearestPolygon) : Type 0 where
  pub holding : HoldsAt mesh p y near.at
  pub gap : near.gap ≡ height_gap holding.polygon y
  pub before : IsBefore tile index near.at
  pub least : (other : PolyRef) → IsBefore tile index other → (held : HoldsAt mesh p y other)
      → IsNoLater near.gap near.at (height_gap held.polygon y) other

-- what was found among the polygons before a place; none where none of them holds the point at the height
abbrev pub IsNearestBefore : Mesh → Point → ℕ → ℕ → ℕ → Option NearestPolygon → Type 0
IsNearestBefore mesh p y tile index None = (other : PolyRef) → IsBefore tile index other → HoldsAt mesh p y other → ⊥
IsNearestBefore mesh p y tile index (Some near) = IsNearest mesh p y tile index near

-- a gap is less than that of what was found
abbrev pub is_nearer : ℕ → Option NearestPolygon → Bool
is_nearer gap None = true
is_nearer gap (Some near) = nat_lt gap near.gap

-- every polygon that holds the point at the height stands in a tile in one of these columns of tiles
pub record AreColumns (mesh : Mesh) (p : Point) (y : ℕ) (columns : AxisTiles) : Type 0 where
  pub order : columns.first ≤ columns.end
  pub inside : columns.end ≤ tiles_in_row mesh.setting
  pub all : (other : PolyRef) → HoldsAt mesh p y other → IsOneOf columns (other.tile % tiles_in_row mesh.setting)

-- a point lies no further left and no further down than another
pub record IsFrom (low high : Point) : Type 0 where
  pub across : low.x ≤ℤ high.x
  pub along : low.z ≤ℤ high.z

-- a point, in sixteenths, lies in a box of whole cells, or on its border
pub record IsInBox (box : Extent) (p : Point) : Type 0 where
  pub low : IsFrom (scaled box.low.x box.low.z) p
  pub high : IsFrom p (scaled box.high.x box.high.z)
