-- StripMeshes: the mesh of a tile as strips, one rectangle a strip.
use Rattle.std.specs.Prelude.{List, length, map}
use Rattle.std.specs.List.{range_with_len}
use Rattle.nav_ground.specs.declared.setting.Setting.{Setting}
use Rattle.nav_ground.specs.declared.cell.Cell.{Cell}
use Rattle.nav_ground.specs.declared.cell.FreeLayer.{FreeLayer}
use Rattle.nav_ground.specs.Tiling.{tile_window}
use Rattle.mesh_types.specs.declared.mesh.TileMesh.{TileMesh}
use Rattle.mesh_types.specs.StripPolygons.{strip_runs, strip_polygon}
use Rattle.mesh_types.specs.StripLinks.{strip_links}
use Rattle.mesh_types.specs.StripRim.{strip_rim}
use Rattle.mesh_types.specs.Storeys.{TileStoreys, strip_storey}

-- the storeys of a tile as strips: each polygon has that of its strip
abbrev pub strip_storeys : List (List Cell) → TileStoreys
strip_storeys runs = record { homes = range_with_len 0 (length runs); list = map strip_storey runs }

-- the mesh of a tile as strips: a rectangle for each strip, the links between them, the rim, and a storey for each strip
unfoldable pub strip_mesh_of : Setting → FreeLayer → TileMesh
strip_mesh_of setting free = record {
  tile = free.tile;
  free = free;
  polys = map strip_polygon (strip_runs free.cells);
  links = strip_links free.tile (strip_runs free.cells);
  rim = strip_rim (tile_window setting free.tile) (strip_runs free.cells);
  storeys = strip_storeys (strip_runs free.cells);
}
