-- Across: tiles that lie side by side, and what their rim entries name.
use Rattle.std.specs.Prelude.{◌≡◌, ℕ, ◌+◌, ◌<◌, ◌≤◌, ℤ, pos, ◌≤ℤ◌, ◌==◌, if◌then◌else◌, length, slice_get, All, Some}
use Rattle.nav_base.specs.declared.point.Point.{Point}
use Rattle.nav_base.specs.Convex.{corner_at}
use Rattle.nav_ground.specs.declared.setting.Setting.{Setting}
use Rattle.mesh_types.specs.declared.polygon.Polygon.{Polygon}
use Rattle.mesh_types.specs.declared.mesh.RimEdge.{RimEdge}
use Rattle.mesh_types.specs.declared.mesh.TileMesh.{TileMesh}
use Rattle.mesh_types.specs.BorderLinks.{line_of}
use Rattle.mesh_types.specs.WholeMesh.{tile_across}
use Rattle.mesh_types.specs.FitTiles.{IsFit}

-- of two tiles that are fit for one setting, the second lies across a side of the first
pub record AreAcross (a b : TileMesh) (side : ℕ) : Type 0 where
  pub setting : Setting
  pub across : tile_across setting a.tile side ≡ Some b.tile
  pub first_fit : IsFit setting a
  pub second_fit : IsFit setting b

-- a coordinate in whole cells lies in the largest field
pub record IsOnField (n : ℤ) : Type 0 where
  pub least : pos 0 ≤ℤ n
  pub most : n ≤ℤ pos 1024

-- the positions of a rim entry lie in the largest field
abbrev pub IsWithinField : RimEdge → Type 0
IsWithinField entry = 0 < length entry.pairs → entry.first + length entry.pairs ≤ 1024

-- a rim entry names an edge of one of the tile's polygons, whose beginning and positions lie in the largest field
pub record IsNamed (tile : TileMesh) (entry : RimEdge) : Type 0 where
  pub polygon : Polygon
  pub is_there : slice_get tile.polys entry.poly ≡ Some polygon
  pub x : IsOnField (corner_at polygon.corners entry.edge).x
  pub z : IsOnField (corner_at polygon.corners entry.edge).z
  pub positions : IsWithinField entry

-- the coordinate of a point that is the same all along a side
abbrev pub fixed_of : ℕ → Point → ℤ
fixed_of side corner =
    if side == 0 then corner.x
    else (if side == 1 then corner.z
    else (if side == 2 then corner.x
    else corner.z))

-- the edges of a tile's rim along a side lie on one line
pub record HasLine (side : ℕ) (tile : TileMesh) : Type 0 where
  pub line : ℤ
  pub each : All (λ (entry : RimEdge). entry.side ≡ side → line_of side tile.polys entry ≡ line) tile.rim
