-- WholeMesh: the tiles of a ground joined into one mesh.
use Rattle.std.specs.Prelude.{ℕ, ◌+◌, ◌-◌, ◌/◌, ◌%◌, nat_lt, ◌==◌, if◌then◌else◌, List, [], map, slice_get, Option, Some, None, option_and_then}
use Rattle.std.specs.List.{flat_map, range_with_len}
use Rattle.std.specs.Option.{option_map_or}
use Rattle.nav_ground.specs.declared.setting.Setting.{Setting}
use Rattle.nav_ground.specs.Tiling.{tiles_in_row, tile_rows}
use Rattle.mesh_types.specs.declared.links.PolyRef.{PolyRef}
use Rattle.mesh_types.specs.declared.links.Link.{Link}
use Rattle.mesh_types.specs.declared.polygon.Polygon.{Polygon}
use Rattle.mesh_types.specs.declared.mesh.TileMesh.{TileMesh}
use Rattle.mesh_types.specs.declared.mesh.Mesh.{Mesh}
use Rattle.mesh_types.specs.BorderLinks.{border_links}
use Rattle.mesh_types.specs.LinkOrder.{ordered_links}

-- the polygon that a reference names, if there is one
abbrev pub poly_at : Mesh → PolyRef → Option Polygon
poly_at mesh at = option_and_then (λ (tile : TileMesh). slice_get tile.polys at.index) (slice_get mesh.tiles at.tile)

-- the tile across a side of a tile, if there is one
abbrev pub tile_across : Setting → ℕ → ℕ → Option ℕ
tile_across setting tile side =
    if side == 0 then (if tile % tiles_in_row setting == 0 then None else Some (tile - 1))
    else (if side == 1 then (if nat_lt (tile / tiles_in_row setting + 1) (tile_rows setting) then Some (tile + tiles_in_row setting) else None)
    else (if side == 2 then (if nat_lt (tile % tiles_in_row setting + 1) (tiles_in_row setting) then Some (tile + 1) else None)
    else (if tile / tiles_in_row setting == 0 then None else Some (tile - tiles_in_row setting))))

-- the links from a tile over one of its sides
abbrev pub links_over : Setting → List TileMesh → TileMesh → ℕ → List Link
links_over setting tiles tile side =
    option_map_or (λ (other : TileMesh). border_links tile other side) (option_and_then (slice_get tiles) (tile_across setting tile.tile side)) []

-- the links that leave a tile over its four sides, in order
abbrev pub cross_links : Setting → List TileMesh → TileMesh → List Link
cross_links setting tiles tile = ordered_links (flat_map (links_over setting tiles tile) (range_with_len 0 4))

-- the mesh of a setting and its tiles
unfoldable pub mesh_of : Setting → List TileMesh → Mesh
mesh_of setting tiles = record { setting = setting; tiles = tiles; cross = map (cross_links setting tiles) tiles }
