-- ContourMeshes: the mesh of a tile by the outlines of its regions, and the mesh of the kind that a setting wants.
use Rattle.std.specs.Prelude.{List, map, Option, unwrap_or}
use Rattle.std.specs.Option.{option_map}
use Rattle.nav_ground.specs.declared.setting.MeshKind.{MeshKind}
use Rattle.nav_ground.specs.declared.setting.MeshKind.TheVariants.{Strips, Contours}
use Rattle.nav_ground.specs.declared.setting.Setting.{Setting}
use Rattle.nav_ground.specs.declared.cell.Cell.{Cell}
use Rattle.nav_ground.specs.declared.cell.FreeLayer.{FreeLayer}
use Rattle.nav_ground.specs.Tiling.{tile_window}
use Rattle.mesh_types.specs.declared.region.Regions.{Regions}
use Rattle.mesh_types.specs.declared.region.RegionPart.{RegionPart}
use Rattle.mesh_types.specs.declared.mesh.TileMesh.{TileMesh}
use Rattle.mesh_types.specs.StripMeshes.{strip_mesh_of}
use Rattle.mesh_types.specs.Regions.{regions_of}
use Rattle.mesh_types.specs.Parts.{parts_of}
use Rattle.mesh_types.specs.Facets.{Facet, facets_of, facet_polygon}
use Rattle.mesh_types.specs.Doors.{doors_of, door_links}
use Rattle.mesh_types.specs.DoorRim.{door_rim}
use Rattle.mesh_types.specs.Storeys.{TileStoreys, region_storey}

-- the storeys of a tile by the parts of its regions: each polygon has that of its region
abbrev pub part_storeys : List Cell → Regions → List RegionPart → TileStoreys
part_storeys cells regions parts = record {
  homes = map (λ (facet : Facet). facet.region) (facets_of parts);
  list = map (region_storey cells) regions.regions;
}

-- the mesh of a tile by the parts of its regions: a polygon for each piece, the links through the doors, the rim, a storey for each region
unfoldable pub parts_mesh : Setting → FreeLayer → Regions → List RegionPart → TileMesh
parts_mesh setting free regions parts = record {
  tile = free.tile;
  free = free;
  polys = map (facet_polygon free.cells regions) (facets_of parts);
  links = door_links free.tile (doors_of (facets_of parts));
  rim = door_rim (tile_window setting free.tile) free.cells regions (doors_of (facets_of parts));
  storeys = part_storeys free.cells regions parts;
}

-- the mesh of a tile by the outlines of its regions, where each region has an outline that can be cut
unfoldable pub contour_mesh_of : Setting → FreeLayer → Option TileMesh
contour_mesh_of setting free =
    let regions = regions_of free.cells in
    option_map (parts_mesh setting free regions) (parts_of (tile_window setting free.tile) setting.error free.cells regions)

-- the mesh of a tile: by outlines where the setting wants them and each region has one that can be cut, otherwise as strips
abbrev pub mesh_of_kind : MeshKind → Setting → FreeLayer → TileMesh
mesh_of_kind Strips setting free = strip_mesh_of setting free
mesh_of_kind Contours setting free = unwrap_or (contour_mesh_of setting free) (strip_mesh_of setting free)

-- the mesh of a tile, of the kind that the setting names
unfoldable pub mesh_of_free : Setting → FreeLayer → TileMesh
mesh_of_free setting free = mesh_of_kind setting.mesh setting free
