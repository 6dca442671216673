-- What holds of a tile's mesh of either kind.
use Rattle.std.proofs.Common.{◌≡◌, List, ap, refl, Option, Some, None, sym}
use Rattle.std.specs.Prelude.{unwrap_or}
use Rattle.std.specs.Option.{option_map}
use Rattle.std.proofs.lemmas.Option.{none-some, same_Some}
use Rattle.nav_ground.specs.declared.cell.FreeLayer.{FreeLayer}
use Rattle.nav_ground.specs.declared.setting.MeshKind.{MeshKind}
use Rattle.nav_ground.specs.declared.setting.MeshKind.TheVariants.{Strips, Contours}
use Rattle.nav_ground.specs.declared.setting.Setting.{Setting}
use Rattle.nav_ground.specs.Tiling.{tile_window}
use Rattle.mesh_types.specs.declared.region.RegionPart.{RegionPart}
use Rattle.mesh_types.specs.declared.mesh.TileMesh.{TileMesh}
use Rattle.mesh_types.specs.ContourMeshes.{contour_mesh_of, mesh_of_free, mesh_of_kind, parts_mesh}
use Rattle.mesh_types.specs.Parts.{parts_of}
use Rattle.mesh_types.specs.Regions.{regions_of}
use Rattle.mesh_types.specs.StripMeshes.{strip_mesh_of}

-- what holds of the strips, and of the mesh by outlines where there is one
pub of_either : (P : TileMesh → Type 0) (setting : Setting) (free : FreeLayer) → P (strip_mesh_of setting free)
    → ((tile : TileMesh) → contour_mesh_of setting free ≡ Some tile → P tile) → P (mesh_of_free setting free)
unfolding mesh_of_free
of_either P setting free strips contours = by_kind setting.mesh
  where
    by_found : (found : Option TileMesh) → contour_mesh_of setting free ≡ found → P (unwrap_or found (strip_mesh_of setting free))
    by_found None is = strips
    by_found (Some tile) is = contours tile is

    by_kind : (kind : MeshKind) → P (mesh_of_kind kind setting free)
    by_kind Strips = strips
    by_kind Contours = by_found (contour_mesh_of setting free) refl

-- a mesh by outlines is that of the tile's parts
contour_of_free : (setting : Setting) (free : FreeLayer) (tile : TileMesh) → contour_mesh_of setting free ≡ Some tile → tile.free ≡ free
unfolding contour_mesh_of parts_mesh
contour_of_free setting free tile is = by_parts (parts_of (tile_window setting free.tile) setting.error free.cells (regions_of free.cells)) is
  where
    by_parts : (found : Option (List RegionPart)) → option_map (parts_mesh setting free (regions_of free.cells)) found ≡ Some tile → tile.free ≡ free
    by_parts None is = absurd (none-some tile is)
    by_parts (Some parts) is = ap (λ (t : TileMesh). t.free) (sym (same_Some (parts_mesh setting free (regions_of free.cells) parts) tile is))

strips_of_free : (setting : Setting) (free : FreeLayer) → (strip_mesh_of setting free).free ≡ free
unfolding strip_mesh_of
strips_of_free setting free = refl

-- a tile's mesh has the free cells of which it is made
pub mesh_of_cells : (setting : Setting) (free : FreeLayer) → (mesh_of_free setting free).free ≡ free
mesh_of_cells setting free =
    of_either (λ (tile : TileMesh). tile.free ≡ free) setting free (strips_of_free setting free) (contour_of_free setting free)

contour_of_tile : (setting : Setting) (free : FreeLayer) (tile : TileMesh) → contour_mesh_of setting free ≡ Some tile → tile.tile ≡ free.tile
unfolding contour_mesh_of parts_mesh
contour_of_tile setting free tile is = by_parts (parts_of (tile_window setting free.tile) setting.error free.cells (regions_of free.cells)) is
  where
    by_parts : (found : Option (List RegionPart)) → option_map (parts_mesh setting free (regions_of free.cells)) found ≡ Some tile → tile.tile ≡ free.tile
    by_parts None is = absurd (none-some tile is)
    by_parts (Some parts) is = ap (λ (t : TileMesh). t.tile) (sym (same_Some (parts_mesh setting free (regions_of free.cells) parts) tile is))

strips_of_tile : (setting : Setting) (free : FreeLayer) → (strip_mesh_of setting free).tile ≡ free.tile
unfolding strip_mesh_of
strips_of_tile setting free = refl

-- and the number of their tile
pub mesh_of_tile : (setting : Setting) (free : FreeLayer) → (mesh_of_free setting free).tile ≡ free.tile
mesh_of_tile setting free =
    of_either (λ (tile : TileMesh). tile.tile ≡ free.tile) setting free (strips_of_tile setting free) (contour_of_tile setting free)
