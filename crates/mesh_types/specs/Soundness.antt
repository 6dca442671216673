-- Soundness: what the tiles of a mesh and the links over their borders keep.
use Rattle.std.specs.Prelude.{◌≡◌, ◌≢◌, ℕ, ◌+◌, ◌<◌, ◌≤◌, get_or, List, length, All}
use Rattle.std.specs.List.{sum_by}
use Rattle.nav_ground.specs.declared.setting.Setting.{Setting}
use Rattle.nav_ground.specs.Tiling.{tile_count}
use Rattle.mesh_types.specs.declared.links.Link.{Link}
use Rattle.mesh_types.specs.declared.mesh.TileMesh.{TileMesh}
use Rattle.mesh_types.specs.declared.mesh.Mesh.{Mesh}
use Rattle.mesh_types.specs.WholeMesh.{poly_at}
use Rattle.mesh_types.specs.Portals.{LeadsThrough}
use Rattle.mesh_types.specs.FitTiles.{IsFit}

-- how many polygons tiles have together
abbrev pub polygon_count : List TileMesh → ℕ
polygon_count tiles = sum_by (λ (tile : TileMesh). length tile.polys) tiles

-- how many links a mesh has: those inside its tiles, and those over their borders
abbrev pub link_count : Mesh → ℕ
link_count mesh = sum_by (λ (tile : TileMesh). length tile.links) mesh.tiles + sum_by (λ (links : List Link). length links) mesh.cross

-- one tile mesh for each tile, in order, each fit for the setting, with at most 8000000 polygons together
pub record AreTiles (setting : Setting) (tiles : List TileMesh) : Type 0 where
  pub each : length tiles ≡ tile_count setting
  pub in_order : (t : ℕ) (d : TileMesh) → t < length tiles → (get_or tiles t d).tile ≡ t
  pub fit : All (IsFit setting) tiles
  pub few : polygon_count tiles ≤ 8000000

-- a link over a tile border leads through its portal from a polygon of the tile to one of another tile
pub record IsCrossLink (mesh : Mesh) (tile : ℕ) (link : Link) : Type 0 where
  pub from_here : link.from.tile ≡ tile
  pub to_another : link.to.tile ≢ tile
  pub through : LeadsThrough (poly_at mesh link.from) (poly_at mesh link.to) link

-- a mesh is sound: its tiles are fit, and for each tile there is one list of links that leave it for others
pub record IsSound (mesh : Mesh) : Type 0 where
  pub tiles : AreTiles mesh.setting mesh.tiles
  pub one_each : length mesh.cross ≡ length mesh.tiles
  pub cross : (t : ℕ) (d : List Link) → t < length mesh.cross → All (IsCrossLink mesh t) (get_or mesh.cross t d)
