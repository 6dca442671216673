-- Passages: that none is missing from a tile or a mesh, and that each leads there and back.
use Rattle.std.specs.Prelude.{◌≡◌, ℕ, ◌<◌, Bool, false, IsTrue, ◌==◌, ◌&&◌, List, [], length, get_or, Option, Some, None, All, Contains}
use Rattle.std.specs.List.{count_by}
use Rattle.nav_ground.specs.declared.setting.Setting.{Setting}
use Rattle.nav_ground.specs.declared.cell.Cell.{Cell}
use Rattle.nav_ground.specs.Cells.{is_naming}
use Rattle.nav_ground.specs.Tiling.{tile_window}
use Rattle.mesh_types.specs.declared.links.Link.{Link}
use Rattle.mesh_types.specs.declared.links.Portal.{Portal}
use Rattle.mesh_types.specs.declared.mesh.LevelPair.{LevelPair}
use Rattle.mesh_types.specs.declared.mesh.RimEdge.{RimEdge}
use Rattle.mesh_types.specs.declared.mesh.TileMesh.{TileMesh}
use Rattle.mesh_types.specs.declared.mesh.Mesh.{Mesh}
use Rattle.mesh_types.specs.BorderLinks.{pair_at}
use Rattle.mesh_types.specs.Corridors.{IsLinkOf}
use Rattle.mesh_types.specs.Portals.{LiesAlong}
use Rattle.mesh_types.specs.StripPolygons.{strip_runs}
use Rattle.mesh_types.specs.StripLinks.{edge_portal, outside_of}
use Rattle.mesh_types.specs.Crossings.{is_crossing, level_pair, position_of}

-- the reverse of a link: through the same portal, back over an edge of the polygon that it enters
abbrev pub reverse_of : ℕ → Link → Link
reverse_of edge link = record {
  from = link.to;
  edge = edge;
  to = link.from;
  portal = record { left = link.portal.right; right = link.portal.left };
}

-- among links is the reverse of a link
pub record HasReverse (links : List Link) (link : Link) : Type 0 where
  pub edge : ℕ
  pub back : Contains links (reverse_of edge link)

-- among a mesh's links is the reverse of a link
pub record HasReverseIn (mesh : Mesh) (link : Link) : Type 0 where
  pub edge : ℕ
  pub back : IsLinkOf mesh (reverse_of edge link)

-- links lead there and back: each has its reverse among them
abbrev pub AreTwoWay : List Link → Type 0
AreTwoWay links = All (HasReverse links) links

-- so do all links of a mesh
abbrev pub IsTwoWay : Mesh → Type 0
IsTwoWay mesh = (link : Link) → IsLinkOf mesh link → HasReverseIn mesh link

-- the part of a portal that is the side of a column, where the portal leads over an edge of a strip
abbrev pub column_side : ℕ → Cell → Portal
column_side edge cell = edge_portal edge cell.at.x cell.at.x cell.at.z

-- a link leads from the strip s to the strip t, out of a cell's column in a direction
pub record LeadsOut (tile : TileMesh) (s t dir : ℕ) (cell : Cell) (link : Link) : Type 0 where
  pub from : link.from ≡ record { tile = tile.tile; index = s }
  pub edge : link.edge ≡ outside_of dir
  pub to : link.to ≡ record { tile = tile.tile; index = t }
  pub side : LiesAlong link.portal.right link.portal.left (column_side (outside_of dir) cell).right (column_side (outside_of dir) cell).left

-- two connected cells of two strips of a tile
pub record AreConnected (runs : List (List Cell)) (s t dir : ℕ) (from to : Cell) : Type 0 where
  pub first : s < length runs
  pub second : t < length runs
  pub apart : s ≡ t → ⊥
  pub direction : dir < 4
  pub has : Contains (get_or runs s []) from
  pub has_other : Contains (get_or runs t []) to
  pub named : IsTrue (is_naming dir from to.at)

-- each connection between two strips of a tile is linked: a link leads out of the column of its cell into the other strip
abbrev pub LinksConnected : TileMesh → Type 0
LinksConnected tile =
    (s t dir : ℕ) (from to : Cell) → AreConnected (strip_runs tile.free.cells) s t dir from to
    → (link : Link) × Contains tile.links link × LeadsOut tile s t dir from link

-- a rim entry lists a cell along a side: at the cell's position it has the levels of the cell and of its neighbour across
abbrev pub has_levels : LevelPair → Option LevelPair → Bool
has_levels pair (Some found) = found.own == pair.own && found.other == pair.other
has_levels pair None = false

abbrev pub is_listing : ℕ → Cell → RimEdge → Bool
is_listing side cell entry = entry.side == side && has_levels (level_pair side cell) (pair_at entry (position_of side cell.at))

-- each free cell with a kept neighbour across a side of the tile is listed by exactly one entry of the rim
abbrev pub ListsCrossings : Setting → TileMesh → Type 0
ListsCrossings setting tile =
    (side : ℕ) → side < 4
    → All (λ (cell : Cell). IsTrue (is_crossing (tile_window setting tile.tile) side cell) → count_by (is_listing side cell) tile.rim ≡ 1) tile.free.cells
