-- Linked: that the doors of a tile that face each other are linked.
use Rattle.std.specs.Prelude.{◌≡◌, true, List, Contains, Some}
use Rattle.nav_ground.specs.declared.setting.Setting.{Setting}
use Rattle.nav_ground.specs.Tiling.{tile_window}
use Rattle.mesh_types.specs.declared.region.RegionPart.{RegionPart}
use Rattle.mesh_types.specs.declared.region.PortalEdge.{PortalEdge}
use Rattle.mesh_types.specs.declared.mesh.TileMesh.{TileMesh}
use Rattle.mesh_types.specs.Regions.{regions_of}
use Rattle.mesh_types.specs.Doors.{are_facing, door_link, doors_of}
use Rattle.mesh_types.specs.ContourMeshes.{contour_mesh_of}
use Rattle.mesh_types.specs.Facets.{facets_of}
use Rattle.mesh_types.specs.Parts.{parts_of}

-- a tile is built by the outlines of its regions
abbrev pub IsOfOutlines : Setting → TileMesh → Type 0
IsOfOutlines setting tile = contour_mesh_of setting tile.free ≡ Some tile

-- two doors of a tile that face each other
pub record AreFacingIn (setting : Setting) (tile : TileMesh) (parts : List RegionPart) (a b : PortalEdge) : Type 0 where
  pub made : parts_of (tile_window setting tile.tile) setting.error tile.free.cells (regions_of tile.free.cells) ≡ Some parts
  pub has : Contains (doors_of (facets_of parts)) a
  pub has_other : Contains (doors_of (facets_of parts)) b
  pub facing : are_facing a b ≡ true

-- every two doors of a tile that face each other are linked, from each to the other
abbrev pub LinksFacing : Setting → TileMesh → Type 0
LinksFacing setting tile = (parts : List RegionPart) (a b : PortalEdge) → AreFacingIn setting tile parts a b → Contains tile.links (door_link tile.tile a b)
