-- FitTiles: what the polygons, the links and the rim of a tile mesh keep.
use Rattle.std.specs.Prelude.{◌≡◌, ℕ, zero, suc, ◌+◌, ◌<◌, ◌≤◌, pos, ◌≤ℤ◌, ◌+ℤ◌, length, All, slice_get, Some}
use Rattle.nav_base.specs.declared.point.Point.{Point}
use Rattle.nav_base.specs.Point.{IsCellCorner}
use Rattle.nav_base.specs.Convex.{IsStrictlyConvex, corner_at, place_after}
use Rattle.nav_ground.specs.declared.setting.Setting.{Setting}
use Rattle.nav_ground.specs.declared.cell.Window.{Window}
use Rattle.nav_ground.specs.Limits.{IsArea}
use Rattle.nav_ground.specs.Cells.{IsCut, IsInTile}
use Rattle.nav_ground.specs.Tiling.{tile_window}
use Rattle.mesh_types.specs.declared.polygon.Polygon.{Polygon}
use Rattle.mesh_types.specs.declared.links.Link.{Link}
use Rattle.mesh_types.specs.declared.mesh.RimEdge.{RimEdge}
use Rattle.mesh_types.specs.declared.mesh.TileMesh.{TileMesh}
use Rattle.mesh_types.specs.Portals.{LeadsThrough}

-- a polygon is strictly convex with 3 to 6 corners in the largest field, has an area that can be walked on, and floors in order of at
-- most 8191
pub record IsPolygon (polygon : Polygon) : Type 0 where
  pub convex : IsStrictlyConvex polygon.corners
  pub most : length polygon.corners ≤ 6
  pub corners : All IsCellCorner polygon.corners
  pub area : IsArea polygon.area
  pub floors : polygon.low ≤ polygon.high
  pub high : polygon.high ≤ 8191

-- an inner link leads through its portal from one polygon of its tile to another
pub record IsInnerLink (tile : TileMesh) (link : Link) : Type 0 where
  pub from_here : link.from.tile ≡ tile.tile
  pub to_here : link.to.tile ≡ tile.tile
  pub through : LeadsThrough (slice_get tile.polys link.from.index) (slice_get tile.polys link.to.index) link

-- a corner of a polygon lies in the square of a tile
pub record IsInSquare (window : Window) (p : Point) : Type 0 where
  pub left : window.x0 ≤ℤ p.x
  pub right : p.x ≤ℤ (window.x1 +ℤ pos 1)
  pub bottom : window.z0 ≤ℤ p.z
  pub top : p.z ≤ℤ (window.z1 +ℤ pos 1)

-- an edge from u to v lies on a side of a tile
abbrev pub LiesOnSide : Window → ℕ → Point → Point → Type 0
LiesOnSide window zero u v = (u.x ≡ window.x0) × (v.x ≡ window.x0)
LiesOnSide window (suc zero) u v = (u.z ≡ window.z1 +ℤ pos 1) × (v.z ≡ window.z1 +ℤ pos 1)
LiesOnSide window (suc (suc zero)) u v = (u.x ≡ window.x1 +ℤ pos 1) × (v.x ≡ window.x1 +ℤ pos 1)
LiesOnSide window (suc (suc (suc side))) u v = (u.z ≡ window.z0) × (v.z ≡ window.z0)

-- an edge from u to v along a side runs over the positions from one up to before another
abbrev pub RunsOver : ℕ → Point → Point → ℕ → ℕ → Type 0
RunsOver zero u v first end = (v.z ≤ℤ pos first) × (pos end ≤ℤ u.z)
RunsOver (suc zero) u v first end = (v.x ≤ℤ pos first) × (pos end ≤ℤ u.x)
RunsOver (suc (suc zero)) u v first end = (u.z ≤ℤ pos first) × (pos end ≤ℤ v.z)
RunsOver (suc (suc (suc side))) u v first end = (u.x ≤ℤ pos first) × (pos end ≤ℤ v.x)

-- a rim entry names an edge of one of the tile's polygons, which lies on the entry's side and runs over its positions, where it has some
pub record IsRimOf (setting : Setting) (tile : TileMesh) (entry : RimEdge) : Type 0 where
  pub side : entry.side < 4
  pub polygon : Polygon
  pub is_there : slice_get tile.polys entry.poly ≡ Some polygon
  pub edge : entry.edge < length polygon.corners
  pub lies : LiesOnSide (tile_window setting tile.tile) entry.side (corner_at polygon.corners entry.edge)
      (corner_at polygon.corners (place_after (length polygon.corners) entry.edge))
  pub runs : 0 < length entry.pairs → RunsOver entry.side (corner_at polygon.corners entry.edge)
      (corner_at polygon.corners (place_after (length polygon.corners) entry.edge)) entry.first (entry.first + length entry.pairs)

-- a tile mesh is fit for a setting
pub record IsFit (setting : Setting) (tile : TileMesh) : Type 0 where
  pub of_tile : tile.free.tile ≡ tile.tile
  pub free : IsCut tile.free.cells
  pub in_tile : IsInTile setting tile.tile tile.free.cells
  pub polys : All IsPolygon tile.polys
  pub square : All (λ (polygon : Polygon). All (IsInSquare (tile_window setting tile.tile)) polygon.corners) tile.polys
  pub links : All (IsInnerLink tile) tile.links
  pub rim : All (IsRimOf setting tile) tile.rim
