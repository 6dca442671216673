-- The mesh of a tile's free cells is fit.
use Rattle.std.proofs.Common.{◌≡◌, refl, Option, Some, None}
use Rattle.std.specs.Prelude.{unwrap_or}
use Rattle.nav_ground.specs.declared.setting.MeshKind.{MeshKind}
use Rattle.nav_ground.specs.declared.setting.MeshKind.TheVariants.{Strips, Contours}
use Rattle.nav_ground.specs.declared.setting.Setting.{Setting}
use Rattle.nav_ground.specs.declared.cell.FreeLayer.{FreeLayer}
use Rattle.nav_ground.specs.Cells.{IsCut, IsInTile}
use Rattle.mesh_types.specs.declared.mesh.TileMesh.{TileMesh}
use Rattle.mesh_types.specs.StripMeshes.{strip_mesh_of}
use Rattle.mesh_types.specs.FitTiles.{IsFit}
use Rattle.mesh_types.specs.ContourMeshes.{contour_mesh_of, mesh_of_kind, mesh_of_free}
use Rattle.mesh_types.proofs.ContourFit.{contour_mesh_fits}
use Rattle.mono_regions.proofs.RegionsKept.{regions_kept}
use Rattle.strip_mesh.proofs.FitLaws.{strip_mesh_fits}

pub mesh_fits : (setting : Setting) (free : FreeLayer) → IsCut free.cells → IsInTile setting free.tile free.cells → IsFit setting (mesh_of_free setting free)
unfolding mesh_of_free
mesh_fits setting free cut in_tile = of_kind setting.mesh
  where
    as_strips : IsFit setting (strip_mesh_of setting free)
    as_strips = strip_mesh_fits setting free cut in_tile

    of_contours : (o : Option TileMesh) → contour_mesh_of setting free ≡ o → IsFit setting (unwrap_or o (strip_mesh_of setting free))
    of_contours None is = as_strips
    of_contours (Some tile) is = contour_mesh_fits setting free tile cut in_tile (regions_kept free.cells cut) is

    of_kind : (kind : MeshKind) → IsFit setting (mesh_of_kind kind setting free)
    of_kind Strips = as_strips
    of_kind Contours = of_contours (contour_mesh_of setting free) refl
